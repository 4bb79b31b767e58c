-- A deck in which nothing is found is loaded.
use Rattle.std.proofs.Common.{◌≡◌, ℕ, zero, suc, ◌+◌, ◌<◌, ◌≤◌, Bool, true, false, List, [], ◌∷◌, ◌++◌, length, take, get_or, map, Option, Some, None, Result, Ok, Err, refl, sym, ap, ◌∙◌, add-one, arith, inl, inr, subst}
use Rattle.std.specs.Prelude.{All, bytes_eq, filter_map, position}
use Rattle.std.specs.List.{cons_option, flat_map, onto_first, range_with_len, slice_split}
use Rattle.std.proofs.lemmas.Bool.{cases_lt, le-ltb}
use Rattle.std.proofs.lemmas.List.{length-map}
use Rattle.std.proofs.lemmas.List.Elements.{All-cons, All-from_get_or, All-get_or, All-head, All-nil, All-tail}
use Rattle.std.proofs.lemmas.List.Quantifiers.{position-Some}
use Rattle.std.proofs.lemmas.List.Splits.{slice_split-cons_no, slice_split-cons_yes}
use Rattle.std.proofs.lemmas.List.Sums.{fails_before_first}
use Rattle.pp_numbers.proofs.Pieces.{no_position}
use Rattle.pp_numbers.specs.declared.profile.Profile.{Profile}
use Rattle.pp_text.proofs.PrintingLemmas.{range_flat}
use Rattle.pp_deck.specs.DeckMeaning.{LoadedDeck, deck_meaning, fault_in, faults_in, is_foreign, line_at, loaded, meaning_of_lines, parsed_deck, size_of}
use Rattle.pp_deck.specs.DeckLine.{Line}
use Rattle.pp_deck.specs.Flaw.{code_of}
use Rattle.pp_deck.specs.declared.deck_fault.DeckCode.{DeckCode}
use Rattle.pp_deck.specs.DeckText.{Fields, fields_of, is_line_feed, lines_of}
use Rattle.pp_lint.specs.FieldAtFault.{fault_in as of_read}
use Rattle.pp_lint.specs.Finding.{Finding}
use Rattle.pp_lint.specs.Findings.{fault_as_line, findings, findings_at, findings_in, line_findings, mark}
use Rattle.pp_lint.specs.LintText.{is_something_found}
use Rattle.pp_lint.proofs.FindingLemmas.{fields_at, lines_are, long_deck, marked_deck, none_of, plain_deck}

-- ---- bytes

abbrev IsAscii : List ℕ → Type 0
IsAscii text = All (λ byte. is_foreign byte ≡ false) text

ascii_by : (text : List ℕ) → position is_foreign text ≡ None → IsAscii text
ascii_by text none =
    let past = no_position is_foreign text _ refl none in
    All-from_get_or (λ byte. is_foreign byte ≡ false) text 0 (λ i below. fails_before_first is_foreign text i 0 (omega (arith, past, below)))

position_by : (text : List ℕ) (o : Option ℕ) → position is_foreign text ≡ o → IsAscii text → o ≡ None
position_by text None at ascii = refl
position_by text (Some i) at ascii =
    let there = position-Some is_foreign text i 0 at in
    let fails : is_foreign (get_or text i 0) ≡ false = All-get_or (λ byte. is_foreign byte ≡ false) text i 0 there.0 ascii in
    absurd (cc)

-- a text is ASCII if its lines are
onto_by : (x : ℕ) (pieces : List (List ℕ)) → All IsAscii (onto_first x pieces) → (is_foreign x ≡ false) × All IsAscii pieces
onto_by x [] all = (All-head (λ byte. is_foreign byte ≡ false) x [] (All-head IsAscii (x ∷ []) [] all), All-nil IsAscii)
onto_by x (piece ∷ pieces) all =
    let first = All-head IsAscii (x ∷ piece) pieces all in
    (All-head (λ byte. is_foreign byte ≡ false) x piece first, All-cons IsAscii piece pieces (All-tail (λ byte. is_foreign byte ≡ false) x piece first) (All-tail IsAscii (x ∷ piece) pieces all))

feed_is_ascii : (x : ℕ) → is_line_feed x ≡ true → is_foreign x ≡ false
feed_is_ascii x feed = grind (arith, feed)

ascii_more : (x : ℕ) (xs : List ℕ) (b : Bool) → is_line_feed x ≡ b → (All IsAscii (slice_split is_line_feed xs) → IsAscii xs) → All IsAscii (slice_split is_line_feed (x ∷ xs)) → IsAscii (x ∷ xs)
ascii_more x xs true feed rest all =
    All-cons (λ byte. is_foreign byte ≡ false) x xs (feed_is_ascii x feed) (rest (All-tail IsAscii [] (slice_split is_line_feed xs) (subst (All IsAscii) (slice_split-cons_yes is_line_feed x xs feed) all)))
ascii_more x xs false other rest all =
    let parts = onto_by x (slice_split is_line_feed xs) (subst (All IsAscii) (slice_split-cons_no is_line_feed x xs other) all) in
    All-cons (λ byte. is_foreign byte ≡ false) x xs parts.0 (rest parts.1)

ascii_lines : (text : List ℕ) → All IsAscii (slice_split is_line_feed text) → IsAscii text
ascii_lines [] all = All-nil (λ byte. is_foreign byte ≡ false)
ascii_lines (x ∷ xs) all = ascii_more x xs (is_line_feed x) refl (ascii_lines xs) all

-- ---- lines

both_empty : {X : Type 0} (xs ys : List X) → xs ++ ys ≡ [] → (xs ≡ []) × (ys ≡ [])
both_empty [] ys none = (refl, none)
both_empty (x ∷ xs) ys none = absurd (cc)

nothing_at : {X : Type 0} (f : ℕ → List X) (n : ℕ) → flat_map f (range_with_len 0 n) ≡ [] → (k : ℕ) → k < n → f k ≡ []
nothing_at f zero none = λ k below. absurd (omega (arith, below))
nothing_at f (suc n) none = λ k below.
    let parts = both_empty (flat_map f (range_with_len 0 n)) (f n) (range_flat f 0 n n (omega arith) ∙ ap (λ m. flat_map f (range_with_len 0 m)) (add-one n) ∙ none) in
    elim (cases_lt k n) [ inl less ↦ nothing_at f n parts.0 k less | inr late ↦ ap f (omega (arith, below, late)) ∙ parts.1 ]

record IsClean (line : List ℕ) (fault : Option DeckCode) : Type 0 where
  ascii : position is_foreign line ≡ None
  right : fault ≡ None

clean_by : (k : ℕ) (line : List ℕ) (fault_of : Fields → Option DeckCode) (others : List Finding) (o : Option ℕ) (fault : Option DeckCode) → position is_foreign line ≡ o → fault_of (fields_of line) ≡ fault
    → line_findings k line fault_of others ≡ [] → IsClean line (fault_of (fields_of line))
unfolding line_findings
clean_by k line fault_of others None None at is none = record { ascii = at; right = is }
clean_by k line fault_of others None (Some code) at is none = let found = rw (at, is) at none in absurd (cc)
clean_by k line fault_of others (Some i) fault at is none = let found = rw at at none in absurd (cc)

-- each line of a text in which nothing is found
clean_at : (profile : Profile) (text : List ℕ) → findings_in profile text ≡ [] → (k : ℕ) → k < length (slice_split is_line_feed text)
    → IsClean (get_or (slice_split is_line_feed text) k []) (fault_as_line profile (map fields_of (slice_split is_line_feed text)) k (fields_of (get_or (slice_split is_line_feed text) k [])))
unfolding findings_in
clean_at profile text none k below =
    let lines = slice_split is_line_feed text in
    clean_by k (get_or lines k []) (fault_as_line profile (map fields_of lines) k) _ _ _ refl refl (nothing_at (findings_at profile lines _) (length lines) none k below)

-- ---- the whole deck

no_fault_at : (k : ℕ) (read : Result Line _) → of_read code_of read ≡ None → fault_in k read ≡ None
no_fault_at k (Ok line) none = refl
no_fault_at k (Err flaw) none = absurd (cc)

none_mapped : {A : Type 0} (f : ℕ → Option A) (a n : ℕ) → ((k : ℕ) → k < a + n → f k ≡ None) → filter_map f (range_with_len a n) ≡ []
none_mapped f a zero none = refl
none_mapped f a (suc n) none =
    ap (λ o. cons_option o (filter_map f (range_with_len (a + 1) n))) (none a (omega arith)) ∙ none_mapped f (a + 1) n (λ k below. none k (omega (arith, below)))

no_faults : (profile : Profile) (text : List ℕ) → findings_in profile text ≡ [] → faults_in profile (lines_of text) ≡ []
unfolding faults_in line_at
no_faults profile text none =
    let lines = slice_split is_line_feed text in
    let fields = map fields_of lines in
    rw (lines_are text) (none_mapped (λ k. fault_in k (line_at profile (size_of fields) fields k)) 0 (length fields) (λ k below.
    let within : k < length lines = omega (arith, below, length-map lines fields_of) in
    no_fault_at k (line_at profile (size_of fields) fields k) (rw (fields_at lines k within) (clean_at profile text none k within).right)))

loads_lines : (profile : Profile) (text : List ℕ) → findings_in profile text ≡ [] → (deck : LoadedDeck) × (meaning_of_lines profile (lines_of text) ≡ Ok deck)
unfolding meaning_of_lines
loads_lines profile text none = (
  loaded profile (size_of (lines_of text)) (parsed_deck profile (lines_of text)),
  rw (no_faults profile text none) refl,
)

loads_text : (profile : Profile) (deck : List ℕ) → length deck ≤ 1048576 → findings_in profile deck ≡ [] → (loaded : LoadedDeck) × (deck_meaning profile deck ≡ Ok loaded)
unfolding deck_meaning
loads_text profile deck short none =
    let lines = slice_split is_line_feed deck in
    let all : All IsAscii lines = All-from_get_or IsAscii lines [] (λ k below. ascii_by (get_or lines k []) (clean_at profile deck none k below).ascii) in
    let ascii : position is_foreign deck ≡ None = position_by deck (position is_foreign deck) refl (ascii_lines deck all) in
    let lines_load = loads_lines profile deck none in
    (lines_load.0, rw (le-ltb 1048576 (length deck) short, ascii) lines_load.1)

pub loads : (profile : Profile) (deck : List ℕ) → is_something_found (findings profile deck) ≡ false → (loaded : LoadedDeck) × (deck_meaning profile deck ≡ Ok loaded)
loads profile deck nothing = elim (cases_lt 1048576 (length deck)) [
  | inl long ↦ let found = sym (long_deck profile deck long) ∙ none_of (findings profile deck) nothing in absurd (cc)
  | inr short ↦ by short (bytes_eq (take 3 deck) mark) refl
]
  where
    by : length deck ≤ 1048576 → (b : Bool) → bytes_eq (take 3 deck) mark ≡ b → (loaded : LoadedDeck) × (deck_meaning profile deck ≡ Ok loaded)
    by short true marked = let found = sym (marked_deck profile deck short marked) ∙ none_of (findings profile deck) nothing in absurd (cc)
    by short false plain = loads_text profile deck short (sym (plain_deck profile deck short plain) ∙ none_of (findings profile deck) nothing)
