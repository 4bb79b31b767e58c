-- The columns of an instruction's text.
use Rattle.std.proofs.Common.{◌≡◌, ℕ, suc, ◌+◌, ◌-◌, ◌/◌, ◌%◌, ◌^◌, ◌==◌, Bool, true, false, List, [], ◌∷◌, ◌++◌, Option, None, Some, codes, length, length-append, get_or, replicate, take, refl, sym, ap, ◌∙◌, append_assoc, arith, subst}
use Rattle.std.specs.Char.{is_ascii_whitespace}
use Rattle.std.specs.Str.{IsTrimAsciiEnd}
use Rattle.std.specs.List.{suffix_len}
use Rattle.std.specs.Prelude.{if◌then◌else◌}
use Rattle.std.proofs.Math.Nat.{mod-lt}
use Rattle.std.proofs.Math.Seq.{get_or-append_seam, take-append_seam}
use Rattle.std.proofs.lemmas.List.{append-nil, get_or-append_right, get_or-replicate, get_or_append_left, length-replicate}
use Rattle.std.proofs.lemmas.List.Sums.{suffix_len_is}
use Rattle.std.proofs.lemmas.Str.Ascii.{trim_ascii_end_is}
use Rattle.pp_processor.specs.declared.{block.Block.Block, block.BlockKind.BlockKind}
use Rattle.pp_processor.specs.declared.block.BlockKind.TheVariants.{CentralIn, CentralOut, Input, Output}
use Rattle.pp_word.specs.Address.{relative_to}
use Rattle.pp_word.specs.Numeral.{octal}
use Rattle.pp_word.specs.Opcode.{opcode_at, row_of}
use Rattle.pp_word.specs.declared.opcode.Opcode.{Opcode}
use Rattle.pp_numbers.specs.Tables.{tabulate}
use Rattle.pp_numbers.proofs.TableLemmas.{tabulate_is}
use Rattle.pp_text.specs.InstructionText.{block_text, instruction_text, operands_of, operands_text, running_text}
use Rattle.pp_text.specs.PrintedText.{padded}
use Rattle.pp_word.specs.declared.operands.Operands.{Operands}
use Rattle.pp_word.specs.declared.operands.Operands.TheVariants.{IndexedPlace, JumpPlace, Constant, PlaceAndNumber, Number}

-- nine characters, one by one
nine : (xs : List ℕ) → length xs ≡ 9
    → get_or xs 0 0 ∷ get_or xs 1 0 ∷ get_or xs 2 0 ∷ get_or xs 3 0 ∷ get_or xs 4 0 ∷ get_or xs 5 0 ∷ get_or xs 6 0 ∷ get_or xs 7 0 ∷ get_or xs 8 0 ∷ [] ≡ xs
unfolding tabulate
nine xs long = sym (tabulate_is 0 xs 9 (λ i. get_or xs i 0) long (λ i below. refl))

pub three : (xs : List ℕ) → length xs ≡ 3 → get_or xs 0 0 ∷ get_or xs 1 0 ∷ get_or xs 2 0 ∷ [] ≡ xs
unfolding tabulate
three xs long = sym (tabulate_is 0 xs 3 (λ i. get_or xs i 0) long (λ i below. refl))

-- a mnemonic has three letters
pub three_letters : (op : Opcode) → length ((row_of op).mnemonic) ≡ 3
three_letters op = grind arith

pub instruction_in_pieces : (name operands text : List ℕ) (op : Opcode) → name ≡ (row_of op).mnemonic → length operands ≡ 9 → operands ≡ padded 9 text
    → get_or name 0 0 ∷ get_or name 1 0 ∷ get_or name 2 0 ∷ 32 ∷ get_or operands 0 0 ∷ get_or operands 1 0 ∷ get_or operands 2 0 ∷ get_or operands 3 0 ∷ get_or operands 4 0 ∷ get_or operands 5 0 ∷ get_or operands 6 0 ∷ get_or operands 7 0 ∷ get_or operands 8 0 ∷ []
    ≡ padded 13 ((row_of op).mnemonic ++ codes " " ++ text)
instruction_in_pieces name operands text op is long are = grind (arith, nine, codes, three, three_letters)

-- ---- without the spaces at its end

-- a text that ends in a character other than white space
abbrev IsTrimmed : List ℕ → Type 0
IsTrimmed text = (front : List ℕ) × (last : ℕ) × (text ≡ front ++ last ∷ []) × (is_ascii_whitespace last ≡ false)

octal_trimmed : (width n : ℕ) → IsTrimmed (octal (suc width) n)
octal_trimmed width n = grind (arith, mod-lt)

trimmed_after : (xs ys : List ℕ) → IsTrimmed ys → IsTrimmed (xs ++ ys)
trimmed_after xs ys (front, last, is, seen) = (xs ++ front, last, ap (λ (t : List ℕ). xs ++ t) is ∙ sym (append_assoc xs front (last ∷ [])), seen)

place_trimmed : (b : Bool) (d m : ℕ) → IsTrimmed (octal 4 m ++ (if b then [] else codes "," ++ octal 2 d))
place_trimmed true d m = subst IsTrimmed (sym (append-nil (octal 4 m))) (octal_trimmed 3 m)
place_trimmed false d m = trimmed_after (octal 4 m) (codes "," ++ octal 2 d) (trimmed_after (codes ",") (octal 2 d) (octal_trimmed 1 d))

operands_trimmed : (kind : Operands) (place d m : ℕ) → IsTrimmed (operands_text kind place d m)
operands_trimmed IndexedPlace place d m = place_trimmed (d == 0) d m
operands_trimmed JumpPlace place d m = octal_trimmed 3 (relative_to place d)
operands_trimmed Constant place d m = trimmed_after (octal 2 d) (octal 4 m) (octal_trimmed 3 m)
operands_trimmed PlaceAndNumber place d m = trimmed_after (octal 4 m ++ codes ",") (octal 2 d) (octal_trimmed 1 d)
operands_trimmed Number place d m = octal_trimmed 1 d

running_trimmed : (block : Option Block) (place word m : ℕ) → IsTrimmed (running_text block place word m)
unfolding instruction_text
running_trimmed None place word m = trimmed_after ((row_of (opcode_at (word / 2 ^ 6))).mnemonic ++ codes " ") _ (operands_trimmed (operands_of (word / 2 ^ 6)) place (word % 2 ^ 6) m)
running_trimmed (Some block) place word m = of_kind block.kind
  where
    of_kind : (kind : BlockKind) → IsTrimmed (block_text kind)
    of_kind (Input channel) = trimmed_after (codes "IAM ") (octal 2 channel) (octal_trimmed 1 channel)
    of_kind (Output channel) = trimmed_after (codes "OAM ") (octal 2 channel) (octal_trimmed 1 channel)
    of_kind (CentralIn left) = (codes "CR", 77, refl, refl)
    of_kind (CentralOut left) = (codes "CW", 77, refl, refl)

-- what is left of it, with spaces after it, when these are taken away
unpadded_is : (text out : List ℕ) (spaces : ℕ) → IsTrimmed text → IsTrimAsciiEnd (text ++ replicate spaces 32) out → out ≡ text
unpadded_is text out spaces (front, last, is, seen) trimmed =
    let s : List ℕ = text ++ replicate spaces 32 in
    let long : length s ≡ length text + spaces = length-append text (replicate spaces 32) ∙ ap (λ (n : ℕ). length text + n) (length-replicate spaces 32) in
    let more : length text ≡ length front + 1 = ap length is ∙ length-append front (last ∷ []) in
    let at : length text - 1 ≡ length front = omega (arith, more) in
    let after : suffix_len is_ascii_whitespace s ≡ length s - length text = suffix_len_is is_ascii_whitespace s (length text) 0 (omega (arith, long))
    (λ k above below. ap is_ascii_whitespace (get_or-append_right text (replicate spaces 32) (length text) k 0 refl above ∙ get_or-replicate spaces (k - length text) 32 0 (omega (arith, long, above, below))))
    (λ some. ap is_ascii_whitespace (get_or_append_left text (replicate spaces 32) 0 (length text - 1) (omega (arith, more)) ∙ ap (λ (n : ℕ). get_or text n 0) at ∙ ap (λ (t : List ℕ). get_or t (length front) 0) is ∙ get_or-append_seam front last [] 0) ∙ seen) in
    let all : length s - suffix_len is_ascii_whitespace s ≡ length text = omega (arith, long, after) in
    trim_ascii_end_is s out trimmed ∙ ap (λ (n : ℕ). take n s) all ∙ take-append_seam text (replicate spaces 32)

pub running_is : (block : Option Block) (place word m : ℕ) (field out : List ℕ) → field ≡ padded 13 (running_text block place word m) → IsTrimAsciiEnd field out → out ≡ running_text block place word m
running_is block place word m field out is trimmed =
    let text = running_text block place word m in
    unpadded_is text out (13 - length text) (running_trimmed block place word m) (subst (λ (s : List ℕ). IsTrimAsciiEnd s out) is trimmed)
