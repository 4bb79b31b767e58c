use Rattle.std.proofs.Common.{◌≡◌, ℕ}
use Rattle.pp_run.specs.BareMachine.{StandsFor}
use Rattle.pp_machine.specs.MachineState.{MachineState}
use Rattle.pp_numbers.specs.Profile.{processors_in}
use Rattle.pp_machine.specs.Run.{barrel, run}
use Rattle.pp_ends.specs.Rounds.{after_rounds}
use Rattle.pp_ends.proofs.rounds.run_round.Given as goal

abbrev pub invariant-loop-place : goal.invariant-loop-place
invariant-loop-place g l =
    (rounds : ℕ) (m : MachineState) → l.round ≡ processors_in m.profile
    → StandsFor l.fn.bare (after_rounds rounds m)
    → StandsFor l.bare (run (barrel m.profile l.place) (after_rounds rounds m))
