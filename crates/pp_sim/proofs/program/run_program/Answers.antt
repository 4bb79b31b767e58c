use Rattle.std.specs.Prelude.{None, Some}
use Rattle.std.proofs.Common.{inl, inr}
use Rattle.std.proofs.KnownBytes.{Keeps-refl}
use Rattle.pp_sim.proofs.program.run_program.Goals as goal

pub returns-in-Err : goal.returns-in-Err
returns-in-Err g c = inr (record {
  why = c.in-Err.fault;
  refused = c.in-Err.ensures.refused;
  unread = Keeps-refl _;
  reported = c.tell_line_fault.ensures;
})

pub returns : goal.returns
returns g c = inl (record {
  taken = c.in-Ok.ensures.taken;
  work = c.in-Ok.read.0.work;
  first = c.in-Ok.read.0.first.items;
  until = c.in-Ok.read.0.until;
  asked = c.in-Ok.ensures.work;
  file = Some c.in-Some.path.now;
  named = rw c.in-Some.is at c.in-Ok.ensures.file;
  done = (Keeps-refl _, c.work_on_file.ensures);
})

pub returns-in-None : goal.returns-in-None
returns-in-None g c = inl (record {
  taken = c.in-Ok.ensures.taken;
  work = c.in-Ok.read.0.work;
  first = c.in-Ok.read.0.first.items;
  until = c.in-Ok.read.0.until;
  asked = c.in-Ok.ensures.work;
  file = None;
  named = rw c.in-None.is at c.in-Ok.ensures.file;
  done = record { answer = c.do_work.result; done = c.do_work.ensures; status_is = c.tell_answer.ensures };
})
