use Rattle.std.proofs.Common.{take}
use Rattle.pp_machine.specs.Run.{run}
use Rattle.pp_run.specs.BareMachine.{StandsFor}
use Rattle.pp_condition.proofs.UntilLemmas.{HasRun}
use Rattle.pp_condition.proofs.until.steps_until.Given as goal

abbrev pub invariant-loop-done : goal.invariant-loop-done
invariant-loop-done g l = record {
  stands : StandsFor l.bare (run (take l.done l.order) l.machine);
  runs : HasRun l.until l.order l.machine l.done l.times;
}
