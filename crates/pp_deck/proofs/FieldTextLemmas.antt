-- Fields that were printed are read as they stand; printed numbers are such fields, and octal ones are read back.
use Rattle.std.proofs.Common.{◌≡◌, ℕ, zero, suc, replicate, ◌-◌, ◌<◌, ◌≤◌, Bool, true, false, not, List, [], ◌∷◌, ◌++◌, length, get_or, refl, ap, ◌∙◌, arith, ◌+◌, ◌^◌, Option, Ok, lit<, append_assoc}
use Rattle.std.specs.Prelude.{nat_le, filter, slice_index, ◌==◌, ◌&&◌}
use Rattle.std.specs.List.{AllByRecursion, join_with_byte, list_all, slice_split, take_while, All}
use Rattle.std.proofs.lemmas.Bool.{and_from, and_parts, cond-false, le-leb, leb-true, ne_eqb}
use Rattle.std.proofs.lemmas.List.Folds.{list_all-append}
use Rattle.std.proofs.lemmas.List.Sums.{take_while-cons, AllPass-from_list_all}
use Rattle.std.proofs.lemmas.List.Splits.{slice_split-cons_yes, slice_split-cons_no, slice_split_none, slice_split_at}
use Rattle.pp_deck.specs.DeckText.{is_blank, is_comment, is_nonempty, fields_in, fields_of}
use Rattle.std.specs.Option.{ok_or}
use Rattle.pp_word.specs.Numeral.{decimal, octal, short_octal}
use Rattle.pp_word.proofs.NumeralLemmas.{Pass, decimal_long, decimal_pass, digits_pass, length_digits, octal_read, short_pass, short_read, short_some}
use Rattle.pp_deck.specs.OctalNumber.{number}
use Rattle.pp_deck.specs.declared.flaw.Flaw.{Flaw}

-- a character that may stand in any field
abbrev pub is_ink : ℕ → Bool
is_ink c = nat_le 43 c && nat_le c 126

-- a character that may stand in any line
abbrev pub is_plain : ℕ → Bool
is_plain c = nat_le 32 c && nat_le c 126

pub ink_least : (c : ℕ) → is_ink c ≡ true → 43 ≤ c
ink_least c e = leb-true 43 c (and_parts (nat_le 43 c) (nat_le c 126) e).0

pub plain_least : (c : ℕ) → is_plain c ≡ true → 32 ≤ c
plain_least c e = leb-true 32 c (and_parts (nat_le 32 c) (nat_le c 126) e).0

pub plain_most : (c : ℕ) → is_plain c ≡ true → c ≤ 126
plain_most c e = leb-true c 126 (and_parts (nat_le 32 c) (nat_le c 126) e).1

ink_no_blank : (c : ℕ) → is_ink c ≡ true → is_blank c ≡ false
ink_no_blank c e = grind (arith, ink_least, ne_eqb)

-- the text of a field: not empty, and all ink
pub record IsField (field : List ℕ) : Type 0 where
  pub some : 0 < length field
  pub ink : list_all is_ink field ≡ true

no_blanks : (field : List ℕ) → list_all is_ink field ≡ true → All (λ c. is_blank c ≡ false) field
no_blanks field e = λ k d lt. ink_no_blank (get_or field k d) (AllPass-from_list_all is_ink field e k d lt)

pieces : List (List ℕ) → List (List ℕ)
pieces parts = take_while (λ field. not (is_comment field)) (filter is_nonempty parts)

fields_are : (text : List ℕ) → fields_in text ≡ pieces (slice_split is_blank text)
unfolding fields_in pieces
fields_are text = refl

-- a field at the end of a text
fields_last : (field : List ℕ) → IsField field → fields_in field ≡ field ∷ []
unfolding pieces
fields_last [] h = absurd (omega (arith, h.some))
fields_last (c ∷ field) h = grind (arith, fields_are, pieces, slice_split_none, no_blanks, take_while-cons, ink_least, and_parts, ne_eqb)

-- one before a blank
pub fields_first : (field text : List ℕ) → IsField field → fields_in (field ++ 32 ∷ text) ≡ field ∷ fields_in text
unfolding pieces
fields_first [] text h = absurd (omega (arith, h.some))
fields_first (c ∷ field) text h = grind (arith, fields_are, pieces, slice_split_at, no_blanks, take_while-cons, ink_least, and_parts, ne_eqb)

pub fields_blank : (text : List ℕ) → fields_in (32 ∷ text) ≡ fields_in text
unfolding pieces
fields_blank text = grind (arith, fields_are, pieces, slice_split-cons_yes)

pub fields_comment : (text : List ℕ) → fields_in (42 ∷ text) ≡ []
unfolding pieces
fields_comment text = grind (arith, fields_are, pieces, slice_split-cons_no, take_while-cons)

pub no_fields : fields_in [] ≡ []
unfolding fields_in
no_fields = refl

-- a comment behind blanks
pub blanks_comment : (k : ℕ) (text : List ℕ) → fields_in (replicate k 32 ++ 42 ∷ text) ≡ []
blanks_comment zero text = fields_comment text
blanks_comment (suc k) text = fields_blank (replicate k 32 ++ 42 ∷ text) ∙ blanks_comment k text

-- ---- fields with a blank between each two

pub fields_joined : (fields : List (List ℕ)) → AllByRecursion IsField fields → fields_in (join_with_byte 32 fields) ≡ fields
fields_joined [] all = no_fields
fields_joined (field ∷ []) all = fields_last field all.0
fields_joined (field ∷ next ∷ fields) all = fields_first field _ all.0 ∙ ap (λ more. field ∷ more) (fields_joined (next ∷ fields) all.1)

-- before what has none
pub fields_commented : (field : List ℕ) (fields : List (List ℕ)) (text : List ℕ) → AllByRecursion IsField (field ∷ fields) → fields_in text ≡ [] → fields_in (join_with_byte 32 (field ∷ fields) ++ 32 ∷ text) ≡ field ∷ fields
fields_commented field [] text all none = fields_first field text all.0 ∙ ap (λ more. field ∷ more) none
fields_commented field (next ∷ fields) text all none = grind (arith, append_assoc, fields_first, fields_commented next fields text all.1 none)

ink_plain : (field : List ℕ) → list_all is_ink field ≡ true → list_all is_plain field ≡ true
ink_plain [] ink = refl
ink_plain (c ∷ field) ink = grind (arith, and_parts, and_from, ink_least, le-leb, ink_plain field)

pub plain_joined : (fields : List (List ℕ)) → AllByRecursion IsField fields → list_all is_plain (join_with_byte 32 fields) ≡ true
plain_joined [] all = refl
plain_joined (field ∷ []) all = ink_plain field all.0.ink
plain_joined (field ∷ next ∷ fields) all = list_all-append is_plain field (32 ∷ join_with_byte 32 (next ∷ fields)) ∙ and_from _ _ (ink_plain field all.0.ink) (plain_joined (next ∷ fields) all.1)

-- a line that does not end in CR
plain_here : (line : List ℕ) (i : ℕ) → list_all is_plain line ≡ true → (slice_index line i == 13) ≡ false
plain_here [] i e = refl
plain_here (c ∷ line) zero e = let least = plain_least c (and_parts (is_plain c) (list_all is_plain line) e).0 in ne_eqb c 13 (λ h. absurd (omega (arith, least, h)))
plain_here (c ∷ line) (suc i) e = plain_here line i (and_parts (is_plain c) (list_all is_plain line) e).1

pub fields_of_plain : (line : List ℕ) → list_all is_plain line ≡ true → fields_of line ≡ fields_in line
fields_of_plain line e = ap fields_in (cond-false (slice_index line (length line - 1) == 13) _ line (plain_here line (length line - 1) e))

-- so are they read as a line
pub fields_read : (fields : List (List ℕ)) → AllByRecursion IsField fields → fields_of (join_with_byte 32 fields) ≡ fields
fields_read fields all = fields_of_plain (join_with_byte 32 fields) (plain_joined fields all) ∙ fields_joined fields all

ink_digit : Pass 10 is_ink
ink_digit d lt = and_from (nat_le 43 (48 + d)) (nat_le (48 + d) 126) (le-leb 43 (48 + d) (omega arith)) (le-leb (48 + d) 126 (omega (arith, lt)))

plain_digit : Pass 8 is_plain
plain_digit d lt = and_from (nat_le 32 (48 + d)) (nat_le (48 + d) 126) (le-leb 32 (48 + d) (omega arith)) (le-leb (48 + d) 126 (omega (arith, lt)))

ink_octal : Pass 8 is_ink
ink_octal d lt = ink_digit d (omega (arith, lt))

pub octal_ink : (width n : ℕ) → list_all is_ink (octal width n) ≡ true
octal_ink width n = digits_pass 8 is_ink ink_octal (lit< tt) width n

pub octal_plain : (width n : ℕ) → list_all is_plain (octal width n) ≡ true
octal_plain width n = digits_pass 8 is_plain plain_digit (lit< tt) width n

pub octal_is_field : (width n : ℕ) → 0 < width → IsField (octal width n)
octal_is_field width n some = let long = length_digits 8 width n in record { some = omega (arith, some, long); ink = octal_ink width n }

pub octal_field : (width n : ℕ) → 0 < width → n < 8 ^ width → number width (octal width n) ≡ Ok n
unfolding number
octal_field width n some lt = ap (λ (read : Option ℕ). ok_or read Flaw.BadDigits) (octal_read width width n some (omega arith) lt)

pub short_is_field : (most n : ℕ) → 0 < most → IsField (short_octal most n)
short_is_field most n some = record { some = omega (arith, short_some most n some); ink = short_pass is_ink ink_octal most n }

pub short_field : (most n : ℕ) → 0 < most → n < 8 ^ most → number most (short_octal most n) ≡ Ok n
unfolding number
short_field most n some lt = ap (λ (read : Option ℕ). ok_or read Flaw.BadDigits) (short_read most n some lt)

pub decimal_is_field : (n : ℕ) → IsField (decimal n)
decimal_is_field n = let long = decimal_long n in record { some = omega (arith, long); ink = decimal_pass is_ink ink_digit n }
