use Rattle.pp_run.specs.BareMachine.{StandsFor}
use Rattle.pp_ends.specs.Rounds.{after_rounds}
use Rattle.pp_ends.proofs.rounds.bare_after.Given as goal

abbrev pub invariant-loop-done : goal.invariant-loop-done
invariant-loop-done g l = StandsFor l.bare (after_rounds l.done l.machine)
