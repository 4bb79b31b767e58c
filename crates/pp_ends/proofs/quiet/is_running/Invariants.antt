use Rattle.std.proofs.Common.{ℕ, ◌<◌}
use Rattle.pp_run.specs.BareMachine.{StandsFor}
use Rattle.pp_machine.specs.MachineState.{MachineState, processor_of}
use Rattle.pp_numbers.specs.PpNo.{processor_number}
use Rattle.pp_processor.specs.Processor.{IsAtRest}
use Rattle.pp_ends.proofs.quiet.is_running.Given as goal

abbrev pub invariant-loop-place : goal.invariant-loop-place
invariant-loop-place g l =
    (m : MachineState) → StandsFor l.bare m
    → (k : ℕ) → k < l.place → IsAtRest (processor_of (processor_number k) m)
