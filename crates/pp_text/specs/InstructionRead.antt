-- The words of an instruction, read off its text: the code by the mnemonic, d and m by their
-- columns, in octal. The text leaves two things open: which code a pass has, of 00, 24 and 25
-- (octal), and whether d is 00 or 77 (octal) in a jump to its own place.
use Rattle.std.specs.Prelude.{ℕ, ◌+◌, ◌-◌, ◌*◌, ◌/◌, ◌%◌, ◌^◌, ◌==◌, ◌||◌, nat_lt, List, take, drop, unwrap_or, if◌then◌else◌}
use Rattle.std.specs.List.{position}
use Rattle.std.specs.Str.{bytes_eq}
use Rattle.pp_word.specs.Address.{place_count}
use Rattle.pp_word.specs.Numeral.{value_of}
use Rattle.pp_word.specs.Opcode.{operations, row_of}
use Rattle.pp_text.specs.InstructionText.{operands_of}
use Rattle.pp_word.specs.declared.operands.Operands.{Operands}
use Rattle.pp_word.specs.declared.operands.Operands.TheVariants.{IndexedPlace, JumpPlace, Constant, PlaceAndNumber, Number}

-- the octal number in some columns of a line, counted from 0
abbrev pub number_in : ℕ → ℕ → List ℕ → ℕ
number_in column width line = value_of 8 (take width (drop column line))

-- the first code whose mnemonic stands in the first three columns
abbrev pub code_read : List ℕ → ℕ
code_read text =
    unwrap_or (position (λ op. bytes_eq (row_of op).mnemonic (take 3 text)) operations) 0

-- d of a jump from a place to one that is at most 37 (octal) places away
abbrev pub jump_between : ℕ → ℕ → ℕ
jump_between place target =
    let ahead = (target + place_count - place) % place_count in
    if nat_lt ahead 0o40 then ahead else ahead + 0o77 - place_count

-- d, by the kind of the operands
abbrev pub operand_read : Operands → ℕ → List ℕ → ℕ
operand_read IndexedPlace place text = number_in 9 2 text
operand_read JumpPlace place text = jump_between place (number_in 4 4 text)
operand_read Constant place text = number_in 4 2 text
operand_read PlaceAndNumber place text = number_in 9 2 text
operand_read Number place text = number_in 4 2 text

-- m
abbrev pub second_read : Operands → List ℕ → ℕ
second_read Constant text = number_in 6 4 text
second_read kind text = number_in 4 4 text

-- the word of an instruction at a place
abbrev pub word_of_text : ℕ → List ℕ → ℕ
word_of_text place text =
    code_read text * 2 ^ 6 + operand_read (operands_of (code_read text)) place text

-- its second word
abbrev pub second_of_text : List ℕ → ℕ
second_of_text text = second_read (operands_of (code_read text)) text

-- the word of a text, where there are several
abbrev pub usual_code : ℕ → ℕ
usual_code code = if code == 0o24 || code == 0o25 then 0 else code

abbrev pub usual_operand : Operands → ℕ → ℕ
usual_operand JumpPlace d = if d == 0o77 then 0 else d
usual_operand kind d = d

abbrev pub usual_word : ℕ → ℕ
usual_word word = usual_code (word / 2 ^ 6) * 2 ^ 6
    + usual_operand (operands_of (word / 2 ^ 6)) (word % 2 ^ 6)
