-- What is known of each line that a deck says: its numbers are in range, and only one with the keyword `PP` begins a section.
use Rattle.std.proofs.Common.{◌≡◌, IsTrue, ℕ, ◌+◌, ◌-◌, ◌*◌, ◌^◌, ◌<◌, ◌≤◌, Bool, true, false, cond, List, [], ◌∷◌, length, fold, Option, Result, Ok, Err, arith, lit<}
use Rattle.std.specs.Prelude.{nat_le, nat_lt, ◌&&◌, ◌||◌, All, is_some}
use Rattle.std.specs.List.{list_all}
use Rattle.std.proofs.Math.Nat.{mul-le-mul_left, pow-le-pow_right, pow-suc, pow-zero}
use Rattle.std.proofs.lemmas.Bool.{and_parts, leb-true, ltb-true}
use Rattle.std.proofs.lemmas.List.Elements.{All-nil}
use Rattle.pp_word.specs.Numeral.{is_digit, numeral, value_of}
use Rattle.pp_numbers.specs.Profile.{has_processor}
use Rattle.pp_numbers.specs.declared.profile.Profile.{Profile}
use Rattle.pp_deck.specs.OctalNumber.{number}
use Rattle.pp_deck.specs.DeckLine.{Line, central_size, central_words, section, start, words, line_by, number_then, ends_with, words_in, central_line, central_words_line, section_line, start_line, words_line, ◌>>=◌, line_after}
use Rattle.pp_deck.specs.DeckMeaning.{begins_section, is_processor_keyword, size_of}
use Rattle.pp_deck.specs.DeckText.{Fields}
use Rattle.pp_deck.specs.declared.{flaw.Flaw.Flaw, keyword.Keyword.Keyword}
use Rattle.pp_deck.proofs.SectionLemmas.{current_after}

-- ---- results

abbrev pub Holds : {A F : Type 0} → (A → Type 0) → Result A F → Type 0
Holds P (Ok x) = P x
Holds P (Err flaw) = Unit {0}

holds_bind : {A B : Type 0} (P : A → Type 0) (Q : B → Type 0) (r : Result A _) (next : A → Result B _) → Holds P r → ((x : A) → P x → Holds Q (next x)) → Holds Q (r >>= next)
holds_bind P Q r next h k = grind arith

holds_if : {A F : Type 0} (P : A → Type 0) (b : Bool) (r : Result A F) (flaw : F) → (b ≡ true → Holds P r) → Holds P (cond b r (Err flaw))
holds_if P b r flaw h = grind arith

-- ---- numbers

digit_more : (power value d r : ℕ) → d ≤ 7 → r < (value * 8 + d + 1) * power → r < (value + 1) * (power * 8)
digit_more power value d r le lt = grind (arith, mul-le-mul_left)

octal_below : (field : List ℕ) (value : ℕ) → list_all (is_digit 8) field ≡ true → fold (λ value digit. value * 8 + (digit - 48)) value field < (value + 1) * 8 ^ length field
octal_below [] value e = rw pow-zero (omega arith)
octal_below (c ∷ field) value e =
    let most = ltb-true c 56 (and_parts (nat_le 48 c) (nat_lt c 56) (and_parts (is_digit 8 c) (list_all (is_digit 8) field) e).0).1 in
    rw (pow-suc 8 (length field)) (digit_more (8 ^ length field) value (c - 48) _ (omega (arith, most)) (octal_below field (value * 8 + (c - 48)) (and_parts (is_digit 8 c) (list_all (is_digit 8) field) e).1))

value_below : (most : ℕ) (field : List ℕ) → (nat_le 1 (length field) && nat_le (length field) most && list_all (is_digit 8) field) ≡ true → value_of 8 field < 8 ^ most
value_below most field e =
    let short = leb-true (length field) most (and_parts (nat_le 1 (length field)) (nat_le (length field) most) (and_parts (nat_le 1 (length field) && nat_le (length field) most) (list_all (is_digit 8) field) e).0).1 in
    let all = (and_parts (nat_le 1 (length field) && nat_le (length field) most) (list_all (is_digit 8) field) e).1 in
    omega (arith, octal_below field 0 all, pow-le-pow_right {n = 8} (lit< tt) {i = length field} {j = most} short)

number_holds : (most : ℕ) (field : List ℕ) → Holds (λ n. n < 8 ^ most) (number most field)
unfolding number numeral
number_holds most field = grind (arith, value_below)

words_hold : (most place end : ℕ) (past : _) (fields : List (List ℕ)) → Holds (All (λ w. w < 8 ^ most)) (words_in most place end past fields)
unfolding words_in
words_hold most place end past [] = All-nil (λ w. w < 8 ^ most)
words_hold most place end past (field ∷ fields) = grind (arith, holds_bind, number_holds, holds_if, words_hold most (place + 1) end past fields)

-- ---- lines

-- the numbers of a line are in range, for a machine of this profile
abbrev pub InRange : Profile → Line → Type 0
InRange profile (central_size n) = (1 ≤ n) × (n ≤ 0o400000)
InRange profile (central_words a ws) = All (λ w. w < 8 ^ 20) ws
InRange profile (section n) = IsTrue (has_processor profile n)
InRange profile (start p a) = (p < 8 ^ 4) × (a < 8 ^ 6)
InRange profile (words x ws) = All (λ w. w < 8 ^ 4) ws
InRange profile line = Unit {0}

abbrev is_section : Line → Bool
is_section (section n) = true
is_section line = false

then_holds : (most : ℕ) (fields : Fields) (next : ℕ → Fields → Result Line _) (P : Line → Type 0) → ((n : ℕ) (more : Fields) → n < 8 ^ most → Holds P (next n more)) → Holds P (number_then most fields next)
then_holds most fields next P h = grind (arith, holds_bind, number_holds)

end_holds : (P : Line → Type 0) (line : Line) (more : Fields) → P line → Holds P (ends_with line more)
end_holds P line more h = grind arith

module _ (profile : Profile) where
  -- what is known of a line: whether it begins a section, and that its numbers are in range
  abbrev pub IsKnown : Bool → Line → Type 0
  IsKnown begins line = (is_section line ≡ begins) × InRange profile line

  start_holds : (fields : Fields) → Holds (IsKnown false) (start_line fields)
  unfolding start_line
  start_holds fields = grind (arith, then_holds, holds_bind, number_holds, end_holds)

  words_line_holds : (field : List ℕ) (fields : Fields) → Holds (IsKnown false) (words_line field fields)
  unfolding words_line
  words_line_holds field fields = grind (arith, holds_bind, number_holds, words_hold)

  by_keyword : (size : ℕ) (b s : Bool) (keyword : Keyword) (field : List ℕ) (fields : Fields) → Holds (IsKnown (is_processor_keyword keyword)) (line_by profile size b s keyword field fields)
  unfolding central_line central_words_line section_line
  by_keyword size b s keyword field fields = grind (arith, holds_if, start_holds, end_holds, words_line_holds, then_holds, leb-true, and_parts, holds_bind, words_hold)

  pub line_holds : (size : ℕ) (b s : Bool) (fields : Fields) → Holds (IsKnown (begins_section fields)) (line_after profile size b s fields)
  unfolding line_after
  line_holds size b s fields = grind (arith, by_keyword)

  -- ---- the section behind a line

  known : (r : Result Line Flaw) (begins : Bool) (line : Line) → Holds (IsKnown begins) r → r ≡ Ok line → is_section line ≡ begins
  known r begins line h e = grind arith

  -- there is a current processor where there was one, or where the line begins with `PP`
  pub section_after : (size : ℕ) (b s : Bool) (fields : Fields) (line : Line) (current : Option ℕ) → line_after profile size b s fields ≡ Ok line → is_some (current_after line current) ≡ (is_some current || begins_section fields)
  section_after size b s fields line current e = grind (arith, is_section, known, line_holds)

-- ---- the size of central memory

IsSize : ℕ → Type 0
IsSize n = (1 ≤ n) × (n ≤ 0o400000)

default_size : IsSize 0o10000
unfolding IsSize
default_size = (omega arith, omega arith)

pub size_in_range : (lines : List Fields) → (1 ≤ size_of lines) × (size_of lines ≤ 0o400000)
unfolding size_of IsSize central_line
size_in_range lines = grind (arith, default_size, then_holds, holds_if, end_holds, leb-true, and_parts)
