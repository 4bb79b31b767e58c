use Rattle.std.proofs.Common.{◌≡◌, take}
use Rattle.pp_machine.specs.Headline.{HoldsOnEachChannel}
use Rattle.pp_machine.specs.Run.{run}
use Rattle.pp_run.specs.RunSteps.{run_steps}
use Rattle.pp_run.proofs.observed_run.run_observed.Given as goal

abbrev pub invariant-loop-n : goal.invariant-loop-n
invariant-loop-n g l = record {
  ran : l.machine ≡ run (take l.n-index l.fn.order) l.fn.machine;
  seen : g.O.Observer.HasSeen l.fn.observer (run_steps (take l.n-index l.fn.order) l.fn.machine) l.observer;
  headline : HoldsOnEachChannel l.machine;
  done : l.done ≡ l.n-index;
}
