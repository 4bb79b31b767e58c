-- The words of an instruction are read off its text.
use Rattle.std.proofs.Common.{◌≡◌, ◌∙◌, ℕ, ◌/◌, ◌%◌, ◌^◌, ◌<◌, Bool, true, List, [], ◌∷◌, ◌++◌, get_or, refl, sym, ap, arith, codes}
use Rattle.std.specs.Prelude.{◌==◌, IsTrue}
use Rattle.std.specs.List.{list_all, range_with_len}
use Rattle.std.proofs.lemmas.Bool.{cases_lt, cases_eq, eq-eqb, eqb-true, le-ltb, lt-ltb, ne_eqb}
use Rattle.std.proofs.lemmas.List.FromFn.{get_or-range_with_len}
use Rattle.std.proofs.lemmas.List.Sums.{AllPass-from_list_all}
use Rattle.pp_word.specs.Address.{place_count}
use Rattle.pp_word.specs.Opcode.{have_second_word, opcode_at, row_of}
use Rattle.pp_word.proofs.NumeralLemmas.{octal_numeral}
use Rattle.pp_text.specs.InstructionRead.{code_read, operand_read, second_of_text, second_read, usual_code, usual_operand, usual_word, word_of_text}
use Rattle.pp_text.specs.InstructionText.{instruction_text, is_long, operands_of, operands_text}
use Rattle.pp_word.specs.declared.operands.Operands.{Operands}
use Rattle.pp_text.proofs.InstructionLemmas.{three, three_letters}

-- ---- the table, row by row

-- a test that each code passes
each_code : (p : ℕ → Bool) → list_all p (range_with_len 0 0o100) ≡ true → (code : ℕ) → code < 0o100 → p code ≡ true
each_code p all code low =
    let here : code ≡ get_or (range_with_len 0 0o100) code 0 = omega (arith, get_or-range_with_len 0 0o100 code 0 low) in
    ap p here ∙ AllPass-from_list_all p (range_with_len 0 0o100) all code 0 low

mnemonic_at : ℕ → List ℕ
mnemonic_at code = (row_of (opcode_at code)).mnemonic

code_is : (code : ℕ) → code < 0o100 → code_read (mnemonic_at code) ≡ usual_code code
unfolding mnemonic_at
code_is code low = eqb-true _ _ (each_code (λ code. code_read (mnemonic_at code) == usual_code code) refl code low)

-- ---- columns

-- d and m after four characters
operand_is : (kind : Operands) (a b c place d m : ℕ) → place < place_count → d < 0o100 → m < 2 ^ 12
    → operand_read kind place (a ∷ b ∷ c ∷ 32 ∷ operands_text kind place d m) ≡ usual_operand kind d
operand_is kind a b c place d m within low small = grind (arith, octal_numeral, cases_eq, ne_eqb, cases_lt, lt-ltb, le-ltb, eq-eqb)

second_word_is : (kind : Operands) (a b c place d m : ℕ) → m < 2 ^ 12 → IsTrue (have_second_word kind) → second_read kind (a ∷ b ∷ c ∷ 32 ∷ operands_text kind place d m) ≡ m
second_word_is kind a b c place d m small has = grind (arith, octal_numeral)

-- ---- the text of an instruction

module _ (place word m : ℕ) (low : word < 2 ^ 12) (small : m < 2 ^ 12) where
  code : ℕ
  code = word / 2 ^ 6

  name : List ℕ
  name = mnemonic_at code

  letters : get_or name 0 0 ∷ get_or name 1 0 ∷ get_or name 2 0 ∷ [] ≡ name
  unfolding name mnemonic_at
  letters = three name (three_letters (opcode_at code))

  text_is : instruction_text place word m ≡ get_or name 0 0 ∷ get_or name 1 0 ∷ get_or name 2 0 ∷ 32 ∷ operands_text (operands_of code) place (word % 2 ^ 6) m
  unfolding instruction_text name mnemonic_at code
  text_is = ap (λ n. n ++ codes " " ++ operands_text (operands_of code) place (word % 2 ^ 6) m) (sym letters)

  code_in_text : code_read (instruction_text place word m) ≡ usual_code code
  unfolding name code
  code_in_text = ap code_read text_is ∙ ap code_read letters ∙ code_is code (omega (arith, low))

  kind_in_text : operands_of (code_read (instruction_text place word m)) ≡ operands_of code
  kind_in_text = grind (arith, code_in_text, code, cases_eq, ne_eqb)

  pub word_in_text : place < place_count → word_of_text place (instruction_text place word m) ≡ usual_word word
  unfolding code
  word_in_text within = grind (arith, kind_in_text, code_in_text, code, text_is, operand_is, name)

  pub second_in_text : IsTrue (is_long word) → second_of_text (instruction_text place word m) ≡ m
  unfolding code
  second_in_text long = grind (arith, kind_in_text, code, text_is, second_word_is, name)
