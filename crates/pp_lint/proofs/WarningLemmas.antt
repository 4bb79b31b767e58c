-- What is found in a line by what other lines give.
use Rattle.std.proofs.Common.{◌≡◌, ◌≢◌, ℕ, zero, suc, ◌+◌, ◌<◌, Bool, true, false, List, [], ◌∷◌, ◌++◌, Option, Some, None, refl, sym, ap, ◌∙◌, add-one, arith, inl, inr, subst}
use Rattle.std.specs.Prelude.{◌||◌, ◌==◌, find, if◌then◌else◌, is_some, unwrap_or}
use Rattle.std.specs.List.{flat_map, list_any, range_with_len}
use Rattle.std.specs.Option.{option_or}
use Rattle.std.proofs.lemmas.Bool.{cases_lt, eqb-true, ne_eqb}
use Rattle.std.proofs.lemmas.List.{append-nil}
use Rattle.std.proofs.lemmas.List.Concat.{flat_map-append}
use Rattle.std.proofs.lemmas.List.Folds.{find-append, list_any-append}
use Rattle.pp_word.specs.Address.{place_count}
use Rattle.pp_numbers.proofs.GrowingLists.{range_more}
use Rattle.pp_deck.specs.DeckLine.{Line, nothing}
use Rattle.pp_lint.specs.Finding.{Finding}
use Rattle.pp_lint.specs.FirstLines.{line_in}
use Rattle.pp_lint.specs.Given.{Note, first_line, given, start_place}
use Rattle.pp_lint.specs.LintText.{finding_line, is_something_found}
use Rattle.pp_lint.specs.Warnings.{field_finding, first_field, first_twice, has_words, is_before, is_lacking, is_set, lacking_findings, names_without_start, no_start_findings, no_word_findings, startless_text, twice_findings, twice_text, warnings, wordless_text}
use Rattle.pp_text.proofs.PrintingLemmas.{prints_on}
use Rattle.pp_text.specs.TextWriter.{Prints}
use Rattle.pp_text.specs.declared.text_writer.TextWriter.{TextWriter}
use Rattle.pp_lint.proofs.FindingLemmas.{found_more}
use Rattle.pp_lint.specs.declared.{row.Kind.Kind, row.Row.Row}
use Rattle.pp_lint.specs.declared.row.Kind.TheVariants.{Central, Name, Start, Word}

range_next : (n : ℕ) → range_with_len 0 (n + 1) ≡ range_with_len 0 n ++ n ∷ []
range_next n = range_more 0 n ∙ ap (λ j. range_with_len 0 n ++ j ∷ []) (omega arith)

-- ---- whether one of some numbers passes

or_last : (a b : Bool) → (a || (b || false)) ≡ (a || b)
or_last true b = refl
or_last false true = refl
or_last false false = refl

pub any_next : (p : ℕ → Bool) (n : ℕ) → list_any p (range_with_len 0 (n + 1)) ≡ (list_any p (range_with_len 0 n) || p n)
any_next p n = ap (list_any p) (range_next n) ∙ list_any-append p (range_with_len 0 n) (n ∷ []) ∙ or_last (list_any p (range_with_len 0 n)) (p n)

or_true : (a : Bool) → (a || true) ≡ true
or_true true = refl
or_true false = refl

pub any_there : (p : ℕ → Bool) (n i : ℕ) → i < n → p i ≡ true → list_any p (range_with_len 0 n) ≡ true
any_there p zero i within passes = absurd (omega (arith, within))
any_there p (suc n) i within passes = ap (λ m. list_any p (range_with_len 0 m)) (sym (add-one n)) ∙ any_next p n ∙ elim (cases_lt i n) [
  | inl earlier ↦ ap (λ b. b || p n) (any_there p n i earlier passes)
  | inr last ↦ ap (λ b. list_any p (range_with_len 0 n) || b) (ap p (omega (arith, within, last)) ∙ passes) ∙ or_true (list_any p (range_with_len 0 n))
]

pub has_word_there : (notes : List Note) (n place entry : ℕ) → place < place_count → first_line notes (Word n) place ≡ line_in entry → entry ≢ 0 → true ≡ has_words notes n
unfolding has_words
has_word_there notes n place entry within first taken =
    sym (any_there (λ p. is_some (first_line notes (Word n) p)) place_count place within (ap is_some first ∙ ap (λ (t : Bool). is_some (if t then None else Some entry)) (ne_eqb entry 0 taken)))

-- no word of a processor is below a place
abbrev pub HasNoneBelow : List Note → ℕ → ℕ → Type 0
HasNoneBelow notes n place = list_any (λ p. is_some (first_line notes (Word n) p)) (range_with_len 0 place) ≡ false

pub none_below_next : (notes : List Note) (n place entry : ℕ) → HasNoneBelow notes n place → first_line notes (Word n) place ≡ line_in entry → entry ≡ 0 → HasNoneBelow notes n (place + 1)
none_below_next notes n place entry none first free =
    any_next (λ p. is_some (first_line notes (Word n) p)) place ∙ ap (λ b. b || is_some (first_line notes (Word n) place)) none ∙ ap is_some (first ∙ ap line_in free)

pub has_no_words : (notes : List Note) (n place : ℕ) → place ≡ place_count → HasNoneBelow notes n place → false ≡ has_words notes n
unfolding has_words
has_no_words notes n place all none = sym (subst (HasNoneBelow notes n) all none)

-- ---- what is lacking

pub startless : (k : ℕ) (line : List ℕ) (notes : List Note) (n : ℕ) → true ≡ names_without_start k notes n → no_start_findings k line notes n ≡ field_finding (k + 1) line 0 (startless_text n) ∷ []
unfolding no_start_findings
startless k line notes n is = rw (← is) refl

pub not_startless : (k : ℕ) (line : List ℕ) (notes : List Note) (n : ℕ) → false ≡ names_without_start k notes n → no_start_findings k line notes n ≡ []
unfolding no_start_findings
not_startless k line notes n is = rw (← is) refl

pub wordless : (k : ℕ) (line : List ℕ) (notes : List Note) (n p : ℕ) → true ≡ is_lacking notes (Word n) p → no_word_findings k line notes n p ≡ field_finding (k + 1) line 1 (wordless_text p) ∷ []
unfolding no_word_findings
wordless k line notes n p is = rw (← is) refl

pub not_wordless : (k : ℕ) (line : List ℕ) (notes : List Note) (n p : ℕ) → false ≡ is_lacking notes (Word n) p → no_word_findings k line notes n p ≡ []
unfolding no_word_findings
not_wordless k line notes n p is = rw (← is) refl

-- ---- what is set twice

-- none of the first things in a row is set before line k
abbrev pub NoneIsBefore : ℕ → List Note → Row → ℕ → Type 0
NoneIsBefore k notes row i = find (λ j. is_before k (first_line notes row.kind (row.first + j))) (range_with_len 0 i) ≡ None

find_next : (p : ℕ → Bool) (n : ℕ) → find p (range_with_len 0 n) ≡ None → find p (range_with_len 0 (n + 1)) ≡ (if p n then Some n else None)
find_next p n none = ap (find p) (range_next n) ∙ find-append p (range_with_len 0 n) (n ∷ []) ∙ ap (λ o. option_or o (find p (n ∷ []))) none

pub none_before_next : (k : ℕ) (notes : List Note) (row : Row) (i : ℕ) → NoneIsBefore k notes row i → false ≡ is_before k (first_line notes row.kind (row.first + i)) → NoneIsBefore k notes row (i + 1)
none_before_next k notes row i none is =
    find_next (λ j. is_before k (first_line notes row.kind (row.first + j))) i none ∙ ap (λ (b : Bool). if b then Some i else None) (sym is)

found_in : (p : ℕ → Bool) (n i : ℕ) → i < n → find p (range_with_len 0 i) ≡ None → p i ≡ true → find p (range_with_len 0 n) ≡ Some i
found_in p zero i within none passes = absurd (omega (arith, within))
found_in p (suc n) i within none passes =
    ap (λ m. find p (range_with_len 0 m)) (sym (add-one n)) ∙ elim (cases_lt i n) [
      | inl earlier ↦ ap (find p) (range_next n) ∙ find-append p (range_with_len 0 n) (n ∷ []) ∙ ap (λ o. option_or o (find p (n ∷ []))) (found_in p n i earlier none passes)
      | inr last ↦ let same : i ≡ n = omega (arith, within, last) in
          find_next p n (subst (λ m. find p (range_with_len 0 m) ≡ None) same none) ∙ ap (λ (b : Bool). if b then Some n else None) (subst (λ m. p m ≡ true) same passes) ∙ ap Some (sym same)
    ]

pub first_is_before : (k : ℕ) (notes : List Note) (row : Row) (i : ℕ) → i < row.count → NoneIsBefore k notes row i → true ≡ is_before k (first_line notes row.kind (row.first + i)) → Some i ≡ first_twice k notes row
first_is_before k notes row i within none is = sym (found_in (λ j. is_before k (first_line notes row.kind (row.first + j))) row.count i within none (sym is))

pub not_twice : (k : ℕ) (line : List ℕ) (notes : List Note) (row : Row) → is_set row.kind ≡ true → None ≡ first_twice k notes row → twice_findings k line notes row ≡ []
unfolding twice_findings
not_twice k line notes row set none = rw (set, ← none) refl

number_in : (first : ℕ) (b : Bool) → (first == 0) ≡ b → unwrap_or (if b then None else Some first) 0 ≡ first
number_in first true is = sym (eqb-true first 0 is)
number_in first false is = refl

pub twice : (k : ℕ) (line : List ℕ) (notes : List Note) (row : Row) (i first : ℕ) → is_set row.kind ≡ true → Some i ≡ first_twice k notes row → first_line notes row.kind (row.first + i) ≡ line_in first
    → twice_findings k line notes row ≡ field_finding (k + 1) line (first_field row.kind + i) (twice_text row.kind (row.first + i) first) ∷ []
unfolding twice_findings
twice k line notes row i first set some is =
    rw (set, ← some) (ap (λ n. field_finding (k + 1) line (first_field row.kind + i) (twice_text row.kind (row.first + i) n) ∷ []) (ap (λ o. unwrap_or o 0) is ∙ number_in first (first == 0) refl))

-- ---- all of a line

abbrev lacking_of : ℕ → List ℕ → List Note → Kind → ℕ → List Finding
lacking_of k line notes (Name n) p = no_start_findings k line notes n
lacking_of k line notes (Start n) p = no_word_findings k line notes n p
lacking_of k line notes kind p = []

module _ (k : ℕ) (line : List ℕ) (notes : List Note) where
  lacking_is : (s : Option ℕ) (said : Option Line) → lacking_findings k line notes s said ≡ lacking_of k line notes (given s said).kind (start_place said)
  unfolding given
  lacking_is None (Some nothing) = refl
  lacking_is (Some n) (Some nothing) = refl
  lacking_is s said = refl

  warnings_by : (s : Option ℕ) (said : Option Line) (row : Row) (kind : Kind) → row ≡ given s said → row.kind ≡ kind
      → warnings k line notes s said ≡ twice_findings k line notes row ++ lacking_of k line notes kind (start_place said)
  unfolding warnings
  warnings_by s said row kind is of =
      ap (λ (r : Row). twice_findings k line notes r ++ lacking_findings k line notes s said) (sym is)
      ∙ ap (λ found. twice_findings k line notes row ++ found) (lacking_is s said ∙ ap (λ x. lacking_of k line notes x (start_place said)) (sym (ap (λ (r : Row). r.kind) is) ∙ of))

  none_twice : (row : Row) (kind : Kind) → row.kind ≡ kind → is_set kind ≡ false → twice_findings k line notes row ≡ []
  unfolding twice_findings
  none_twice row kind of unset = rw (of, unset) refl

  others_lack : (row : Row) (kind : Kind) (p : ℕ) → row.kind ≡ kind → ((n : ℕ) → kind ≢ Name n) → ((n : ℕ) → kind ≢ Start n) → ((n : ℕ) → kind ≢ Word n) → kind ≢ Central → twice_findings k line notes row ++ lacking_of k line notes kind p ≡ []
  others_lack row (Name n) p of name start word central = absurd (name n refl)
  others_lack row (Start n) p of name start word central = absurd (start n refl)
  others_lack row (Word n) p of name start word central = absurd (word n refl)
  others_lack row Central p of name start word central = absurd (central refl)
  others_lack row kind p of name start word central = ap (λ found. found ++ []) (none_twice row kind of refl)

  pub warned_other : (s : Option ℕ) (said : Option Line) (row : Row) → row ≡ given s said → ((n : ℕ) → row.kind ≢ Name n) → ((n : ℕ) → row.kind ≢ Start n) → ((n : ℕ) → row.kind ≢ Word n) → row.kind ≢ Central → warnings k line notes s said ≡ []
  warned_other s said row is name start word central = warnings_by s said row row.kind is refl ∙ others_lack row row.kind _ refl name start word central

  pub warned_name : (s : Option ℕ) (said : Option Line) (row : Row) (n : ℕ) → row ≡ given s said → row.kind ≡ Name n → warnings k line notes s said ≡ no_start_findings k line notes n
  warned_name s said row n is of = warnings_by s said row (Name n) is of ∙ ap (λ found. found ++ no_start_findings k line notes n) (none_twice row (Name n) of refl)

  pub warned_start : (s : Option ℕ) (said : Option Line) (row : Row) (n p : ℕ) → row ≡ given s said → row.kind ≡ Start n → start_place said ≡ p
      → warnings k line notes s said ≡ twice_findings k line notes row ++ no_word_findings k line notes n p
  warned_start s said row n p is of at = warnings_by s said row (Start n) is of ∙ ap (λ q. twice_findings k line notes row ++ no_word_findings k line notes n q) at

  pub warned_word : (s : Option ℕ) (said : Option Line) (row : Row) (n : ℕ) → row ≡ given s said → row.kind ≡ Word n → warnings k line notes s said ≡ twice_findings k line notes row
  warned_word s said row n is of = warnings_by s said row (Word n) is of ∙ append-nil (twice_findings k line notes row)

  pub warned_central : (s : Option ℕ) (said : Option Line) (row : Row) → row ≡ given s said → row.kind ≡ Central → warnings k line notes s said ≡ twice_findings k line notes row
  warned_central s said row is of = warnings_by s said row Central is of ∙ append-nil (twice_findings k line notes row)

-- some findings and then others
pub prints_both : {W : Type 0} (contents : W → Option (List ℕ)) (old between new : TextWriter W) (some more : List Finding) → Prints contents old between (flat_map finding_line some) → Prints contents between new (flat_map finding_line more)
    → Prints contents old new (flat_map finding_line (some ++ more))
prints_both contents old between new some more first second = prints_on contents old between new _ _ _ first second (sym (flat_map-append finding_line some more))

pub found_both : (some more : List Finding) (a b c : Bool) → a ≡ is_something_found some → b ≡ is_something_found more → c ≡ (a || b) → c ≡ is_something_found (some ++ more)
found_both some more a b c first second either = either ∙ ap (λ x. x || b) first ∙ ap (λ x. is_something_found some || x) second ∙ sym (found_more some more)
