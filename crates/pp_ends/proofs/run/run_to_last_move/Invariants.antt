use Rattle.std.proofs.Common.{◌≡◌, ℕ}
use Rattle.pp_run.specs.BareMachine.{StandsFor}
use Rattle.pp_machine.specs.MachineState.{MachineState}
use Rattle.pp_machine.specs.Run.{barrel}
use Rattle.pp_ends.specs.Ending.{IsStillFrom, after_turns}
use Rattle.pp_ends.proofs.run.run_to_last_move.Given as goal

abbrev pub invariant-loop-turn : goal.invariant-loop-turn
invariant-loop-turn g l = record {
  ran : (turns : ℕ) (m : MachineState) → l.order ≡ barrel m.profile turns → StandsFor l.fn.bare m → StandsFor l.bare (after_turns l.turn m);
  still : (turns : ℕ) (m : MachineState) → l.order ≡ barrel m.profile turns → StandsFor l.fn.bare m → IsStillFrom l.from l.turn m;
}
