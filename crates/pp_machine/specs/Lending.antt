-- A machine once a lent processor comes back.
use Rattle.std.specs.Prelude.{ℕ, slice_set}
use Rattle.std.specs.Borrow.{Lends, MutBor, Fml, RattleType}
use Rattle.std.specs.declared.alloc.Allocator.{Ghosts}
use Rattle.pp_machine.specs.MachineState.{MachineState}
use Rattle.pp_processor.specs.Processor.{Processor}
use Rattle.pp_numbers.specs.PpNo.{processor_index}
use Rattle.pp_machine.specs.contracts.machine.Machine.{the_row as machine_row}
use Rattle.pp_processor.specs.contracts.pp.Pp.{the_row as pp_row}

-- the machine ends with processor n as it was left after r, and all else as before
abbrev pub LendsProcessor : (A : RattleType) → Ghosts A.Denot → MutBor MachineState → ℕ
    → MutBor Processor → Fml
LendsProcessor A alloc m n r = Lends (machine_row A alloc) pp_row m r
    (λ s. record m.now { processors = slice_set m.now.processors (processor_index n) s })
