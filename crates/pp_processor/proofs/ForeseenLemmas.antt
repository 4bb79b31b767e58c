-- An instruction that faults whatever its processor holds, by the table of instructions.
use Rattle.std.proofs.Common.{◌≡◌, ℕ, Bool, true, false, Some, None, ap}
use Rattle.std.specs.Prelude.{◌&&◌, not, if◌then◌else◌}
use Rattle.pp_numbers.specs.Profile.{has_channel}
use Rattle.pp_word.specs.declared.opcode.Opcode.{Opcode}
use Rattle.pp_word.specs.declared.opcode.Opcode.TheVariants.{EXN, RPN}
use Rattle.pp_processor.specs.Effect.{faults}
use Rattle.pp_processor.specs.Foreseen.{sure_fault}
use Rattle.pp_processor.specs.InstructionTable.{instruction, row, works_on_channel}
use Rattle.pp_processor.specs.Processor.{Processor}
use Rattle.pp_processor.specs.Step.{local}

by_channel : (pp : Processor) (op : Opcode) (d : ℕ) (works has : Bool) (fault : ℕ) → (if works && not has then Some 3 else None) ≡ Some fault
    → (if works && not has then local (faults pp 3) else row op pp d) ≡ local (faults pp fault)
by_channel pp op d true true fault is = absurd (cc)
by_channel pp op d true false fault is = ap (λ n. local (faults pp n)) cc
by_channel pp op d false has fault is = absurd (cc)

pub surely_faults : (op : Opcode) (pp : Processor) (d fault : ℕ) → sure_fault pp.profile op d ≡ Some fault
    → instruction op pp d ≡ local (faults pp fault)
surely_faults EXN pp d fault is = ap (λ n. local (faults pp n)) cc
surely_faults RPN pp d fault is = ap (λ n. local (faults pp n)) cc
surely_faults op pp d fault is = by_channel pp op d (works_on_channel op) (has_channel pp.profile d) fault is
