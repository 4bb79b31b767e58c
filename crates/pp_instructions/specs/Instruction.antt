-- The instructions of a line's words, and whether an operand is theirs.
use Rattle.std.specs.Prelude.{ℕ, ◌+◌, ◌*◌, ◌/◌, ◌%◌, ◌^◌, ◌==◌, ◌&&◌, ◌||◌, Bool, false, List, [], ◌∷◌, ◌++◌, Option, None, Some, codes, drop, position, take, if◌then◌else◌}
use Rattle.std.specs.Option.{option_map_or}
use Rattle.pp_word.specs.Address.{next_place, relative_to}
use Rattle.pp_word.specs.Numeral.{numeral, octal}
use Rattle.pp_word.specs.Opcode.{opcode_at, row_of}
use Rattle.pp_deck.specs.DeckText.{Field}
use Rattle.pp_text.specs.InstructionText.{instruction_text, is_long, operands_of}
use Rattle.pp_word.specs.declared.operands.Operands.{Operands}
use Rattle.pp_word.specs.declared.operands.Operands.TheVariants.{IndexedPlace, JumpPlace, Constant, PlaceAndNumber, Number}
use Rattle.pp_instructions.specs.declared.instruction.Instruction.{Instruction}

-- the instructions of words from a place on: the second word is there if the instruction has one,
-- and the line has it too
unfoldable pub instructions : ℕ → List ℕ → List Instruction
instructions place [] = []
instructions place (w ∷ []) = record { place = place; word = w; second = None } ∷ []
instructions place (w ∷ m ∷ ws) = if is_long w
    then record { place = place; word = w; second = Some m }
    ∷ instructions (next_place (next_place place)) ws
    else record { place = place; word = w; second = None }
    ∷ instructions (next_place place) (m ∷ ws)

-- the mnemonic of a word
abbrev pub mnemonic_of : ℕ → List ℕ
mnemonic_of word = (row_of (opcode_at (word / 2 ^ 6))).mnemonic

-- the text of an instruction without a second word: of one that lacks it the mnemonic
abbrev pub text_without_second : ℕ → ℕ → List ℕ
text_without_second place word =
    if is_long word then mnemonic_of word else instruction_text place word 0

-- `0373 is UJN 0204`, `5050 0200 is LDM 0200,50`, and `5050 is LDM`
abbrev pub words_and_text : ℕ → ℕ → Option ℕ → List ℕ
words_and_text place word (Some m) = octal 4 word ++ codes " " ++ octal 4 m ++ codes " is "
    ++ instruction_text place word m
words_and_text place word None =
    octal 4 word ++ codes " is " ++ text_without_second place word

-- ---- operands, which may lack leading zeros

-- whether a field is this number, in at most `most` digits
abbrev pub says : ℕ → ℕ → Field → Bool
says most n field = option_map_or (λ value. value == n) (numeral 8 most field) false

-- a number alone, for d and m of an instruction at a place: of a jump its place, or d in two digits
abbrev pub is_number_of : Operands → ℕ → ℕ → ℕ → Field → Bool
is_number_of IndexedPlace place d m field = says 4 m field && d == 0
is_number_of JumpPlace place d m field = says 4 (relative_to place d) field || says 2 d field
is_number_of Constant place d m field = says 6 (d * 2 ^ 12 + m) field
is_number_of PlaceAndNumber place d m field = says 4 m field || says 2 d field
is_number_of Number place d m field = says 4 d field

-- two with a comma between
abbrev pub is_pair_of : Operands → ℕ → ℕ → Field → Field → Bool
is_pair_of IndexedPlace d m first second = says 4 m first && says 2 d second
is_pair_of PlaceAndNumber d m first second = says 4 m first && says 2 d second
is_pair_of kind d m first second = false

abbrev pub is_comma : ℕ → Bool
is_comma character = character == 44

-- by the place of the comma
abbrev pub is_operand_by : Option ℕ → Operands → ℕ → ℕ → ℕ → Field → Bool
is_operand_by None kind place d m operand = is_number_of kind place d m operand
is_operand_by (Some i) kind place d m operand =
    is_pair_of kind d m (take i operand) (drop (i + 1) operand)

unfoldable pub is_operand_of : ℕ → ℕ → ℕ → Field → Bool
is_operand_of place word m operand = is_operand_by (position is_comma operand)
    (operands_of (word / 2 ^ 6)) place (word % 2 ^ 6) m operand

-- an instruction that lacks its second word may have each operand
abbrev pub may_have : ℕ → ℕ → Option ℕ → Field → Bool
may_have place word (Some m) operand = is_operand_of place word m operand
may_have place word None operand = is_long word || is_operand_of place word 0 operand
