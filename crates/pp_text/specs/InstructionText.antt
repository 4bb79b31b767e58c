-- The text of an instruction: its mnemonic, a blank, its operands. d is the lower six bits of the
-- word, m the next word; after the word at place 7777 that is the one at 0000.
use Rattle.std.specs.Prelude.{ℕ, ◌/◌, ◌%◌, ◌^◌, ◌==◌, Bool, List, [], ◌++◌, Option, None, Some, codes, if◌then◌else◌}
use Rattle.pp_word.specs.Address.{next_place, relative_to}
use Rattle.pp_word.specs.Opcode.{have_second_word, opcode_at, row_of}
use Rattle.pp_processor.specs.Processor.{Processor, word_at}
use Rattle.pp_processor.specs.declared.{block.Block.Block, block.BlockKind.BlockKind}
use Rattle.pp_processor.specs.declared.block.BlockKind.TheVariants.{CentralIn, CentralOut, Input, Output}
use Rattle.pp_word.specs.Numeral.{octal}
use Rattle.pp_word.specs.declared.operands.Operands.{Operands}
use Rattle.pp_word.specs.declared.operands.Operands.TheVariants.{IndexedPlace, JumpPlace, Constant, PlaceAndNumber, Number}

-- the kind of the operands of the instructions with a code
abbrev pub operands_of : ℕ → Operands
operands_of code = (row_of (opcode_at code)).operands

-- the place of an index, which is none if d is 0
abbrev pub index_text : ℕ → List ℕ
index_text d = if d == 0 then [] else codes "," ++ octal 2 d

-- operands of each kind, at a place. A jump of 00 or 77 leads to its own place
abbrev pub operands_text : Operands → ℕ → ℕ → ℕ → List ℕ
operands_text IndexedPlace place d m = octal 4 m ++ index_text d
operands_text JumpPlace place d m = octal 4 (relative_to place d)
operands_text Constant place d m = octal 2 d ++ octal 4 m
operands_text PlaceAndNumber place d m = octal 4 m ++ codes "," ++ octal 2 d
operands_text Number place d m = octal 2 d

-- the text of the instruction in a word at a place, before the next word m
unfoldable pub instruction_text : ℕ → ℕ → ℕ → List ℕ
instruction_text place word m = (row_of (opcode_at (word / 2 ^ 6))).mnemonic
    ++ codes " " ++ operands_text (operands_of (word / 2 ^ 6)) place (word % 2 ^ 6) m

-- `IAM 05`: the text of a block in progress
abbrev pub block_text : BlockKind → List ℕ
block_text (Input channel) = codes "IAM " ++ octal 2 channel
block_text (Output channel) = codes "OAM " ++ octal 2 channel
block_text (CentralIn left) = codes "CRM"
block_text (CentralOut left) = codes "CWM"

-- the text of the instruction that runs: of the block in progress, whose words may have been
-- overwritten, else of the word at a place
abbrev pub running_text : Option Block → ℕ → ℕ → ℕ → List ℕ
running_text None place word m = instruction_text place word m
running_text (Some block) place word m = block_text block.kind

-- the text of the instruction that a processor runs
abbrev pub running_instruction : Processor → List ℕ
running_instruction pp = running_text pp.block pp.p (word_at pp pp.p) (word_at pp (next_place pp.p))

-- whether a second word belongs to the instruction in a word
abbrev pub is_long : ℕ → Bool
is_long word = have_second_word (operands_of (word / 2 ^ 6))
