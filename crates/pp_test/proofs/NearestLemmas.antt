-- How near lines come to some words.
use Rattle.std.proofs.Common.{◌≡◌, ℕ, ◌+◌, ◌<◌, ◌≤◌, Bool, true, false, cond, List, [], ◌∷◌, length, take, refl, sym, ap, ◌∙◌, arith}
use Rattle.std.specs.Prelude.{◌||◌, ◌==◌, bytes_eq}
use Rattle.std.specs.List.{best_of, common_prefix_len, list_any, slice_split}
use Rattle.std.proofs.lemmas.List.Splits.{length-slice_split}
use Rattle.std.proofs.lemmas.List.Sums.{common_prefix_len-le}
use Rattle.std.proofs.lemmas.Bool.{eq-eqb, eqb-true}
use Rattle.std.proofs.lemmas.Slice.Eq.{bytes_eq-Decides}
use Rattle.pp_deck.specs.DeckText.{Fields, fields_of, is_line_feed}
use Rattle.pp_test.specs.Nearest.{begin, in_common, is_nearer, nearest}

-- ---- words in common

pub no_more_than : (words : Fields) (line : List ℕ) → in_common words line ≤ length words
no_more_than words line = (common_prefix_len-le bytes_eq words (fields_of line)).0

-- ---- the nearest line

-- of two lines the nearer begins with the words if one of them does
begin_either : (words : Fields) (line other : List ℕ) (b : Bool) → is_nearer words other line ≡ b
    → begin words (cond b other line) ≡ (begin words line || begin words other)
begin_either words line other true near = grind (arith, near, no_more_than words line, no_more_than words other)
begin_either words line other false near = grind (arith, near, no_more_than words line, no_more_than words other)

any_or : (a b c : Bool) → ((a || b) || c) ≡ (a || (b || c))
any_or true b c = refl
any_or false b c = refl

or_none : (a : Bool) → a ≡ (a || false)
or_none true = refl
or_none false = refl

begin_best : (words : Fields) (line : List ℕ) (lines : List (List ℕ))
    → begin words (best_of (is_nearer words) line lines) ≡ (begin words line || list_any (begin words) lines)
begin_best words line [] = or_none (begin words line)
begin_best words line (other ∷ lines) =
    begin_best words (cond (is_nearer words other line) other line) lines
    ∙ ap (λ b. b || list_any (begin words) lines) (begin_either words line other (is_nearer words other line) refl)
    ∙ any_or (begin words line) (begin words other) (list_any (begin words) lines)

-- it is the nearest of the first and those after it
pub nearest_none : (words : Fields) (lines : List (List ℕ)) → lines ≡ [] → [] ≡ nearest words lines
unfolding nearest
nearest_none words lines is = sym (ap (nearest words) is)

pub nearest_first : (words : Fields) (lines : List (List ℕ)) (line : List ℕ) (more : List (List ℕ)) → lines ≡ line ∷ more
    → best_of (is_nearer words) line more ≡ nearest words lines
unfolding nearest
nearest_first words lines line more is = sym (ap (nearest words) is)

-- the words begin the nearest line if they begin any
pub begin_nearest : (words : Fields) (text : List ℕ)
    → begin words (nearest words (slice_split is_line_feed text)) ≡ list_any (begin words) (slice_split is_line_feed text)
unfolding nearest
begin_nearest words text = some (slice_split is_line_feed text) (omega (arith, length-slice_split is_line_feed text))
  where
    some : (lines : List (List ℕ)) → 0 < length lines → begin words (nearest words lines) ≡ list_any (begin words) lines
    some [] none = absurd (omega (arith, none))
    some (line ∷ lines) more = begin_best words line lines

-- ---- what it is to begin a line

same_heads : (word other : List ℕ) (words found : Fields)
    → ((common_prefix_len bytes_eq words found == length words) ≡ true → take (length words) found ≡ words)
    → (b : Bool) → bytes_eq word other ≡ b → (common_prefix_len bytes_eq (word ∷ words) (other ∷ found) == length (word ∷ words)) ≡ true
    → take (length (word ∷ words)) (other ∷ found) ≡ word ∷ words
same_heads word other words found more true same is =
    let here : common_prefix_len bytes_eq (word ∷ words) (other ∷ found) ≡ 1 + common_prefix_len bytes_eq words found = rw same refl in
    let all : common_prefix_len bytes_eq words found ≡ length words = omega (arith, here, eqb-true _ _ is) in
    ap (λ ws. other ∷ ws) (more (eq-eqb _ _ all)) ∙ ap (λ w. w ∷ words) (sym ((bytes_eq-Decides word other).0 same))
same_heads word other words found more false apart is = absurd (grind (arith, is, apart))

pub begins_with : (words found : Fields) → (common_prefix_len bytes_eq words found == length words) ≡ true → take (length words) found ≡ words
begins_with [] found is = refl
begins_with (word ∷ words) [] is = absurd (grind (arith, is))
begins_with (word ∷ words) (other ∷ found) is = same_heads word other words found (begins_with words found) (bytes_eq word other) refl is

pub begins_words : (words found : Fields) → take (length words) found ≡ words → (common_prefix_len bytes_eq words found == length words) ≡ true
begins_words [] found is = refl
begins_words (word ∷ words) [] is = absurd (cc)
begins_words (word ∷ words) (other ∷ found) is =
    let same : other ≡ word = cc in
    let more : take (length words) found ≡ words = cc in
    let equal : bytes_eq word other ≡ true = (bytes_eq-Decides word other).1 (sym same) in
    let here : common_prefix_len bytes_eq (word ∷ words) (other ∷ found) ≡ 1 + common_prefix_len bytes_eq words found = rw equal refl in
    eq-eqb _ _ (omega (arith, here, eqb-true _ _ (begins_words words found more)))
