use Rattle.std.proofs.Common.{inl, inr, refl}
use Rattle.pp_sim.proofs.program.show_help.Goals as goal

pub returns-in-Ok : goal.returns-in-Ok
returns-in-Ok g c = inl (refl, c.in-Ok.ensures)

pub returns-in-Err : goal.returns-in-Err
returns-in-Err g c = inr (inl (c.tell_answer.ensures, c.in-Err.ensures))
