-- What comments say.
use Rattle.std.proofs.Common.{◌≡◌, ℕ, ◌+◌, ◌-◌, ◌<◌, suc, Bool, true, false, List, [], ◌∷◌, ◌++◌, length, take, Some, None, refl, sym, ap, ◌∙◌, arith}
use Rattle.std.specs.Prelude.{◌==◌, ◌||◌, bytes_eq, find, if◌then◌else◌}
use Rattle.std.specs.List.{list_any, range_with_len}
use Rattle.std.specs.Option.{option_or}
use Rattle.std.proofs.lemmas.List.Folds.{find-append, list_any_at, list_any_more}
use Rattle.pp_numbers.proofs.GrowingLists.{range_append, range_more}
use Rattle.pp_word.specs.Opcode.{operations, opcode_at, row_of}
use Rattle.pp_word.specs.declared.opcode.Opcode.{Opcode}
use Rattle.pp_deck.specs.DeckText.{Field, Fields}
use Rattle.pp_instructions.specs.Claim.{Claim, begins_comment, claim, claims, comment_place, goes_on, is_marked, is_mnemonic, is_operand, last_of, unmarked}

-- ---- the first place at which a test passes

fails_alone : (p : ℕ → Bool) (k : ℕ) → p k ≡ false → find p (k ∷ []) ≡ None
fails_alone p k fails = rw fails refl

passes_first : (p : ℕ → Bool) (k : ℕ) (more : List ℕ) → p k ≡ true → find p (k ∷ more) ≡ Some k
passes_first p k more passes = rw passes refl

from_0 : (k : ℕ) → 0 + k ≡ k
from_0 k = omega arith

pub none_yet : (p : ℕ → Bool) (k : ℕ) → find p (range_with_len 0 k) ≡ None → p k ≡ false → find p (range_with_len 0 (k + 1)) ≡ None
none_yet p k none fails =
    ap (find p) (range_more 0 k) ∙ ap (λ j. find p (range_with_len 0 k ++ j ∷ [])) (from_0 k)
    ∙ find-append p (range_with_len 0 k) (k ∷ []) ∙ ap (λ o. option_or o (find p (k ∷ []))) none ∙ fails_alone p k fails

pub found_here : (p : ℕ → Bool) (k count : ℕ) → k < count → find p (range_with_len 0 k) ≡ None → p k ≡ true → find p (range_with_len 0 count) ≡ Some k
found_here p k count below none passes =
    let rest : ℕ = count - (k + 1) in
    let first : k + suc rest ≡ count = omega (arith, below) in
    ap (λ n. find p (range_with_len 0 n)) (sym first) ∙ ap (find p) (range_append 0 k (suc rest)) ∙ ap (λ j. find p (range_with_len 0 k ++ range_with_len j (suc rest))) (from_0 k)
    ∙ find-append p (range_with_len 0 k) (range_with_len k (suc rest))
    ∙ ap (λ o. option_or o (find p (range_with_len k (suc rest)))) none ∙ passes_first p k (range_with_len (k + 1) rest) passes

pub comment_here : (line : List ℕ) (place : ℕ) → place < length line → find (begins_comment line) (range_with_len 0 place) ≡ None → begins_comment line place ≡ true → Some place ≡ comment_place line
unfolding comment_place
comment_here line place below none begins = sym (found_here (begins_comment line) place (length line) below none begins)

pub no_comment : (line : List ℕ) → find (begins_comment line) (range_with_len 0 (length line)) ≡ None → None ≡ comment_place line
unfolding comment_place
no_comment line none = sym none

-- ---- mnemonics

abbrev pub has_mnemonic : Field → Opcode → Bool
has_mnemonic field op = bytes_eq (row_of op).mnemonic field

pub other_mnemonic : (field : Field) (code : ℕ) → code < 64 → list_any (has_mnemonic field) (take code operations) ≡ false → has_mnemonic field (opcode_at code) ≡ false
    → list_any (has_mnemonic field) (take (code + 1) operations) ≡ false
other_mnemonic field code below none fails = list_any_more (has_mnemonic field) operations code Opcode.PSN below ∙ rw (none, fails) refl

pub mnemonic_here : (field : Field) (code : ℕ) → code < 64 → has_mnemonic field (opcode_at code) ≡ true → true ≡ is_mnemonic field
unfolding is_mnemonic
mnemonic_here field code below passes = sym (list_any_at (has_mnemonic field) operations code Opcode.PSN below passes)

pub no_mnemonic : (field : Field) → list_any (has_mnemonic field) (take 64 operations) ≡ false → false ≡ is_mnemonic field
unfolding is_mnemonic
no_mnemonic field none = sym none

-- ---- what fields say

pub nothing_said : (n : ℕ) → claims n [] ≡ []
unfolding claims
nothing_said n = refl

pub prose_said : (n : ℕ) (field : Field) (rest : Fields) → is_mnemonic (unmarked field) ≡ false → claims n (field ∷ rest) ≡ []
unfolding claims
prose_said n field [] prose = rw prose refl
prose_said n field (next ∷ fields) prose = rw prose refl

neither : (b : Bool) (none : List Claim) → (if b then none else none) ≡ none
neither true none = refl
neither false none = refl

-- a mark ends a mnemonic
pub marked_said : (n : ℕ) (field : Field) (rest : Fields) → is_mnemonic (unmarked field) ≡ true → is_marked field ≡ true
    → claims n (field ∷ rest) ≡ claim n (unmarked field) [] ∷ (if goes_on field then claims (n + 1) rest else [])
unfolding claims
marked_said n field [] is marked = rw is (ap (λ more. claim n (unmarked field) [] ∷ more) (sym (neither (goes_on field) [])))
marked_said n field (next ∷ fields) is marked = rw (is, marked) refl

no_mark : (field : Field) → is_marked field ≡ false → goes_on field ≡ false
no_mark field none = by (goes_on field) none
  where
    by : (b : Bool) → (b || last_of field == 58) ≡ false → b ≡ false
    by true none = none
    by false none = refl

-- a mnemonic is the last field
pub last_said : (n : ℕ) (field : Field) → is_mnemonic (unmarked field) ≡ true → claims n (field ∷ []) ≡ claim n (unmarked field) [] ∷ []
unfolding claims
last_said n field is = rw is refl

-- prose comes after a mnemonic
pub bare_said : (n : ℕ) (field next : Field) (fields : Fields) → is_mnemonic (unmarked field) ≡ true → is_marked field ≡ false → is_operand (unmarked next) ≡ false
    → claims n (field ∷ next ∷ fields) ≡ claim n (unmarked field) [] ∷ []
unfolding claims
bare_said n field next fields is plain prose = rw (is, plain, prose, no_mark field plain) refl

-- an operand does
pub operand_said : (n : ℕ) (field next : Field) (fields : Fields) → is_mnemonic (unmarked field) ≡ true → is_marked field ≡ false → is_operand (unmarked next) ≡ true
    → claims n (field ∷ next ∷ fields) ≡ claim n (unmarked field) (unmarked next) ∷ (if goes_on next then claims (n + 2) fields else [])
unfolding claims
operand_said n field next fields is plain operand = rw (is, plain, operand) refl
