use Rattle.std.proofs.Common.{ℕ, ◌<◌}
use Rattle.pp_run.specs.BareMachine.{StandsFor}
use Rattle.pp_machine.specs.MachineState.{MachineState}
use Rattle.pp_numbers.specs.PpNo.{processor_number}
use Rattle.pp_run.specs.Determinacy.{Waits}
use Rattle.pp_ends.proofs.quiet.is_quiet.Given as goal

abbrev pub invariant-loop-place : goal.invariant-loop-place
invariant-loop-place g l =
    (m : MachineState) → StandsFor l.bare m → (k : ℕ) → k < l.place → Waits (processor_number k) m
