-- Five places, one after another (0000 after 7777, octal), outside of which a step stores nothing.
-- (Private contracts alone cite this.)
use Rattle.std.specs.Prelude.{◌≡◌, ◌≢◌, ℕ, ◌+◌, ◌<◌, ◌%◌, Option, None, Some, slice_index}
use Rattle.pp_word.specs.Address.{place_count}
use Rattle.pp_word.specs.declared.opcode.Opcode.{Opcode}
use Rattle.pp_word.specs.declared.opcode.Opcode.TheVariants.{RJM, CRM, CWM, IAM, OAM}
use Rattle.pp_processor.specs.InstructionTable.{operand_place}
use Rattle.pp_processor.specs.NeedAndEffect.{processor_after}
use Rattle.pp_processor.specs.Operand.{index, lower_six, operation}
use Rattle.pp_processor.specs.Processor.{Processor}
use Rattle.pp_processor.specs.declared.{answer.Answer.Answer, block.Block.Block}

-- the first place that an instruction may store to: of a return address, of the place kept at the
-- start of a block, or of its operand
abbrev pub first_of : Opcode → Processor → ℕ → ℕ
first_of RJM pp d = index pp d
first_of CRM pp d = 0
first_of CWM pp d = 0
first_of IAM pp d = 0
first_of OAM pp d = 0
first_of op pp d = operand_place op pp d

-- the first place of the next step: in a block that of its next word
abbrev pub first_stored : Option Block → Processor → ℕ
first_stored None pp = first_of (operation pp) pp (lower_six pp)
first_stored (Some block) pp = block.place

-- a place is none of five
abbrev pub IsApart : ℕ → ℕ → Type 0
IsApart place first = (i : ℕ) → i < 5 → place ≢ (first + i) % place_count

-- whatever the answer, the next step keeps the words at all other places
abbrev pub KeepsOthers : Processor → ℕ → Type 0
KeepsOthers pp first = (answer : Answer) (place : ℕ) → IsApart place first
    → slice_index (processor_after pp answer).memory place ≡ slice_index pp.memory place
