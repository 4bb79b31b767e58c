-- The fields of a text, and its lines, taken off one by one.
use Rattle.std.proofs.Common.{◌≡◌, ℕ, ◌+◌, ◌<◌, ◌≤◌, Bool, true, false, not, cond, List, [], ◌∷◌, length, take, drop, get_or, Option, Some, None, refl, sym, ap, ◌∙◌, arith, add-zero, map}
use Rattle.std.specs.Prelude.{position, unwrap_or, filter, slice_index, ◌==◌}
use Rattle.std.specs.List.{position_or_len, slice_split}
use Rattle.std.proofs.lemmas.List.{drop_all, length-drop, get_or-drop, drop_more, length-map}
use Rattle.std.proofs.lemmas.List.Sums.{prefix_len-le-length, take_while-cons, count_by-le-length}
use Rattle.std.proofs.lemmas.List.Splits.{slice_split-cons_yes, slice_split-cons_no, length-slice_split}
use Rattle.std.proofs.lemmas.List.Quantifiers.{position-Some}
use Rattle.std.proofs.lemmas.Bool.{ltb-false, cond-true, cond-false, eq-eqb, ne_eqb, not-true}
use Rattle.pp_numbers.proofs.Pieces.{at_position, no_position, split_first, split_last}
use Rattle.pp_deck.specs.DeckText.{is_blank, is_nonempty, fields_in, is_line_feed, fields_of, lines_of}

-- ---- the first element that passes

-- where it stands, or the length
pub unwrap_or_position : (p : ℕ → Bool) (xs : List ℕ) → unwrap_or (position p xs) (length xs) ≡ position_or_len p xs
unwrap_or_position p xs = grind (arith, ltb-false, prefix_len-le-length)

-- ---- blanks

after_blank : (x n : ℕ) (xs : List ℕ) (b : Bool) → is_blank x ≡ b → fields_in (drop n xs) ≡ fields_in xs → fields_in (drop (cond (not (not b)) (1 + n) 0) (x ∷ xs)) ≡ fields_in (x ∷ xs)
unfolding fields_in
after_blank x n xs b e h = grind (arith, slice_split-cons_yes)

-- blanks before a field say nothing
behind_blanks : (xs : List ℕ) → fields_in (drop (position_or_len (λ byte. not (is_blank byte)) xs) xs) ≡ fields_in xs
behind_blanks [] = refl
behind_blanks (x ∷ xs) = after_blank x (position_or_len (λ byte. not (is_blank byte)) xs) xs (is_blank x) refl (behind_blanks xs)

no_fields : fields_in [] ≡ []
unfolding fields_in
no_fields = refl

-- all blank: there is no field
pub fields_of_blanks : (r : Option ℕ) (xs : List ℕ) → r ≡ position (λ byte. not (is_blank byte)) xs → r ≡ None → fields_in xs ≡ []
fields_of_blanks r xs e n =
    let past = no_position (λ byte. not (is_blank byte)) xs _ refl (sym e ∙ n) in
    sym (behind_blanks xs) ∙ ap fields_in (drop_all _ xs past) ∙ no_fields

-- the fields from the first that is not blank on
pub fields_from : (i : ℕ) (xs : List ℕ) → Some i ≡ position (λ byte. not (is_blank byte)) xs → fields_in xs ≡ fields_in (drop i xs)
fields_from i xs e = grind (arith, behind_blanks, at_position)

-- ---- a field

-- the first piece of a text ends at the first blank, and what follows has the fields behind it
record TakesPiece (text : List ℕ) (n : ℕ) (more : List (List ℕ)) : Type 0 where
  pieces : slice_split is_blank text ≡ take n text ∷ more
  behind : filter is_nonempty (slice_split is_blank (drop n text)) ≡ filter is_nonempty more

piece_more : (x n : ℕ) (xs : List ℕ) (b : Bool) → is_blank x ≡ b → (more : List (List ℕ)) → TakesPiece xs n more → (rest : List (List ℕ)) × TakesPiece (x ∷ xs) (cond (not b) (1 + n) 0) rest
piece_more x n xs true e more h = (
  slice_split is_blank xs,
  record {
    pieces = slice_split-cons_yes is_blank x xs e;
    behind = ap (filter is_nonempty) (slice_split-cons_yes is_blank x xs e);
  },
)
piece_more x n xs false e more h = grind (arith, slice_split-cons_no)

first_piece : (xs : List ℕ) → (more : List (List ℕ)) × TakesPiece xs (position_or_len is_blank xs) more
first_piece [] = ([], record { pieces = refl; behind = refl })
first_piece (x ∷ xs) = let h = first_piece xs in piece_more x (position_or_len is_blank xs) xs (is_blank x) refl h.0 h.1

piece_at : (x n : ℕ) (xs : List ℕ) (b : Bool) → b ≡ false → (more : List (List ℕ)) → TakesPiece (x ∷ xs) (cond (not b) (1 + n) 0) more → fields_in (x ∷ xs) ≡ cond (x == 42) [] (take (cond (not b) (1 + n) 0) (x ∷ xs) ∷ fields_in (drop (cond (not b) (1 + n) 0) (x ∷ xs)))
unfolding fields_in
piece_at x n xs b e more h = grind (arith, take_while-cons)

first_field : (xs : List ℕ) → 0 < length xs → is_blank (slice_index xs 0) ≡ false → fields_in xs ≡ cond (slice_index xs 0 == 42) [] (take (position_or_len is_blank xs) xs ∷ fields_in (drop (position_or_len is_blank xs) xs))
first_field [] lt e = absurd (omega (arith, lt))
first_field (x ∷ xs) lt e = let h = first_piece (x ∷ xs) in piece_at x (position_or_len is_blank xs) xs (is_blank x) e h.0 h.1

-- what begins where the first character stands that is not blank
record BeginsField (text rest : List ℕ) : Type 0 where
  same : fields_in text ≡ fields_in rest
  some : 0 < length rest
  first : is_blank (slice_index rest 0) ≡ false

begins_field : (text rest : List ℕ) (start : ℕ) → Some start ≡ position (λ byte. not (is_blank byte)) text → rest ≡ drop start text → BeginsField text rest
begins_field text rest start e h = grind (arith, position-Some, fields_from, length-drop, get_or-drop, add-zero, not-true)

pub comment_first : (text rest : List ℕ) (start : ℕ) → Some start ≡ position (λ byte. not (is_blank byte)) text → rest ≡ drop start text → slice_index rest 0 ≡ 42 → fields_in text ≡ []
comment_first text rest start e h star =
    let b = begins_field text rest start e h in
    b.same ∙ first_field rest b.some b.first ∙ cond-true (slice_index rest 0 == 42) _ _ (eq-eqb _ _ star)

pub field_first : (text rest field behind : List ℕ) (start n : ℕ) → Some start ≡ position (λ byte. not (is_blank byte)) text → rest ≡ drop start text → (slice_index rest 0 ≡ 42 → ⊥) → n ≡ position_or_len is_blank rest → field ≡ take n rest → behind ≡ drop n rest → fields_in text ≡ field ∷ fields_in behind
field_first text rest field behind start n e h other m f d =
    let b = begins_field text rest start e h in
    b.same ∙ first_field rest b.some b.first ∙ cond-false (slice_index rest 0 == 42) _ _ (ne_eqb _ _ other)
    ∙ ap (λ (i : ℕ). take i rest ∷ fields_in (drop i rest)) (sym m)
    ∙ ap (λ (l : List ℕ). l ∷ fields_in (drop n rest)) (sym f) ∙ ap (λ (l : List ℕ). field ∷ fields_in l) (sym d)

pub line_first : (text rest : List ℕ) (i : ℕ) → Some i ≡ position is_line_feed text → rest ≡ drop (i + 1) text → lines_of text ≡ fields_of (take i text) ∷ lines_of rest
unfolding lines_of
line_first text rest i e h = ap (map fields_of) (split_first is_line_feed text rest i e h)

pub line_last : (text : List ℕ) → None ≡ position is_line_feed text → lines_of text ≡ fields_of text ∷ []
unfolding lines_of
line_last text e = ap (map fields_of) (split_last is_line_feed text e)

pub length-lines_of : (text : List ℕ) → length (lines_of text) ≤ length text + 1
unfolding lines_of
length-lines_of text = grind (arith, length-map, length-slice_split, count_by-le-length)

-- the next of the lines that are left is line k
pub record NextLine (all : List (List (List ℕ))) (k : ℕ) (line : List (List ℕ)) (rest : List (List (List ℕ))) : Type 0 where
  pub within : k < length all
  pub here : get_or all k [] ≡ line
  pub behind : rest ≡ drop (k + 1) all

some_left : (all rest : List (List (List ℕ))) (k : ℕ) (line : List (List ℕ)) → drop k all ≡ line ∷ rest → k < length all
some_left all rest k line e = let long = ap length e in omega (arith, long, length-drop k all)

pub next_line : (all left rest : List (List (List ℕ))) (k : ℕ) (line : List (List ℕ)) → left ≡ drop k all → left ≡ line ∷ rest → NextLine all k line rest
next_line all left rest k line e h =
    let within = some_left all rest k line (sym e ∙ h) in
    let same : get_or all k [] ∷ drop (k + 1) all ≡ line ∷ rest = sym (drop_more all k [] within) ∙ sym e ∙ h in
    let here : get_or all k [] ≡ line = cc in
    let behind : rest ≡ drop (k + 1) all = cc in
    record { within = within; here = here; behind = behind }

pub no_line : (all left : List (List (List ℕ))) (k : ℕ) → k ≤ length all → left ≡ drop k all → left ≡ [] → k ≡ length all
no_line all left k le e h = let long = ap length (sym e ∙ h) in omega (arith, le, long, length-drop k all)
