use Rattle.pp_sim.proofs.program.do_work.Goals as goal

pub returns-in-Threads : goal.returns-in-Threads
returns-in-Threads g c = rw c.in-Threads.is c.threads_text.ensures
