-- Neighbours that differ; the words on the lines are the words that differ, in order; and what they make of the load.
use Rattle.std.proofs.Common.{◌≡◌, ◌≢◌, ℕ, ◌+◌, ◌-◌, ◌%◌, ◌<◌, ◌≤◌, ◌⊎◌, inl, inr, zero, suc, true, false, not, cond, eqb, eqb-true, List, [], ◌∷◌, ◌++◌, All, length, get_or, set, take, drop, refl, sym, ap, subst, ◌∙◌, append_assoc, arith, add-one}
use Rattle.std.specs.List.{flat_map, list_any, range_with_len}
use Rattle.std.proofs.lemmas.Bool.{cases_Bool, cases_eq, cases_lt, cond-true, cond-false, eq-eqb, eqb-false, ne_eqb, not-false, not-true}
use Rattle.std.proofs.lemmas.List.{append-nil, drop_all, drop_more, take_all, take_more, get_or_past, length-take}
use Rattle.std.proofs.lemmas.List.Elements.{All-append, All-cons, All-nil}
use Rattle.std.proofs.lemmas.List.Concat.{flat_map-append}
use Rattle.std.proofs.Math.Seq.{set-append_seam}
use Rattle.pp_word.specs.Address.{place_count}
use Rattle.pp_machine.specs.MachineState.{MachineState, processor_of}
use Rattle.pp_deck.specs.DeckLine.{central_words, section, words}
use Rattle.pp_text.specs.Differences.{differs, places}
use Rattle.pp_state.specs.Changes.{begins_line, central_line, changed_lines, changed_section, has_changes, line_from, neighbours, position_on_line}
use Rattle.pp_state.specs.StateLaw.{AreMemories, IsNew, overwritten, placed, words_set}
use Rattle.pp_text.proofs.PrintingLemmas.{range_flat}
use Rattle.pp_word.specs.Numeral.{octal}
use Rattle.pp_listing.specs.ListedLine.{after_blank, deck_line}

pub in_front_of_same : (before after : List ℕ) (place : ℕ) → differs before after place ≡ false → position_on_line before after (suc place) ≡ 0
unfolding position_on_line
in_front_of_same before after place e = cond-false (differs before after place) _ _ e

pub in_front_of_next : (before after : List ℕ) (place : ℕ) → differs before after place ≡ true → position_on_line before after (suc place) ≡ (position_on_line before after place + 1) % 8
unfolding position_on_line
in_front_of_next before after place e = cond-true (differs before after place) _ _ e

pub none_at_first : (before after : List ℕ) → position_on_line before after 0 ≡ 0
unfolding position_on_line
none_at_first before after = refl

pub no_more : (before after : List ℕ) (most place : ℕ) → most ≡ 0 → neighbours before after most place ≡ []
unfolding neighbours
no_more before after most place e = grind arith

pub no_neighbour : (before after : List ℕ) (most place : ℕ) → differs before after place ≡ false → neighbours before after most place ≡ []
unfolding neighbours
no_neighbour before after most place e = grind (arith, cond-false)

pub one_neighbour : (before after : List ℕ) (most place : ℕ) → differs before after place ≡ true → neighbours before after (suc most) place ≡ get_or after place 0 ∷ neighbours before after most (place + 1)
unfolding neighbours
one_neighbour before after most place e = cond-true (differs before after place) _ _ e

-- ---- printed

pub no_neighbours_printed : (before after : List ℕ) (most place : ℕ) → neighbours before after most place ≡ [] → [] ≡ flat_map (after_blank 4) (neighbours before after most place)
no_neighbours_printed before after most place e = rw e refl

pub neighbour_printed : (before after : List ℕ) (most place word : ℕ) → 0 < most → differs before after place ≡ true → word ≡ get_or after place 0
    → (32 ∷ []) ++ octal 4 word ++ flat_map (after_blank 4) (neighbours before after (most - 1) (place + 1)) ≡ flat_map (after_blank 4) (neighbours before after most place)
neighbour_printed before after zero place word some differ is = absurd (omega arith)
neighbour_printed before after (suc most) place word some differ is = grind (arith, one_neighbour)

-- ---- lines

pub no_line_of_same : (before after : List ℕ) (place : ℕ) → differs before after place ≡ false → [] ≡ flat_map deck_line (line_from before after place)
no_line_of_same before after place e = grind (arith, eqb)

pub no_line_within : (before after : List ℕ) (place : ℕ) → differs before after place ≡ true → position_on_line before after place ≢ 0 → [] ≡ flat_map deck_line (line_from before after place)
no_line_within before after place e some = grind (arith, ne_eqb)

pub line_begins : (before after : List ℕ) (place : ℕ) → differs before after place ≡ true → position_on_line before after place ≡ 0 → deck_line (words place (neighbours before after 8 place)) ≡ flat_map deck_line (line_from before after place)
line_begins before after place e none = grind (arith, append-nil, eq-eqb)

-- ---- central words

pub central_line_printed : (before after : List ℕ) (a word old : ℕ) → word ≡ get_or after a 0 → old ≡ get_or before a 0 → word ≢ old → deck_line (central_words a (word ∷ [])) ≡ flat_map deck_line (central_line before after a)
central_line_printed before after a word old is was differ = grind (arith, ne_eqb, append-nil)

-- ---- the words that differ, each with its place

abbrev pub change : List ℕ → List ℕ → ℕ → List (ℕ × ℕ)
change before after place = cond (differs before after place) ((place, get_or after place 0) ∷ []) []

abbrev pub changes : List ℕ → List ℕ → ℕ → List (ℕ × ℕ)
changes before after count = flat_map (change before after) (range_with_len 0 count)

changes_more : (before after : List ℕ) (place : ℕ) → differs before after place ≡ true → changes before after (place + 1) ≡ changes before after place ++ (place, get_or after place 0) ∷ []
changes_more before after place e = sym (range_flat (change before after) 0 place place (omega arith)) ∙ ap (λ (xs : List (ℕ × ℕ)). changes before after place ++ xs) (cond-true (differs before after place) _ _ e)

changes_same : (before after : List ℕ) (place : ℕ) → differs before after place ≡ false → changes before after (place + 1) ≡ changes before after place
changes_same before after place e =
    sym (range_flat (change before after) 0 place place (omega arith)) ∙ ap (λ (xs : List (ℕ × ℕ)). changes before after place ++ xs) (cond-false (differs before after place) _ _ e)
    ∙ append-nil (changes before after place)

at_end : (place count : ℕ) → count ≡ 0 → place ≡ place + count
at_end place count e = omega (arith, e)

-- neighbours are the next changes
neighbours_are : (before after : List ℕ) (most place : ℕ) → changes before after place ++ placed place (neighbours before after most place) ≡ changes before after (place + length (neighbours before after most place))
neighbours_are before after zero place = grind (arith, changes, no_more, append-nil, at_end)
neighbours_are before after (suc most) place = grind (arith, cases_Bool, no_neighbour, append-nil, at_end, one_neighbour, append_assoc, changes_more, neighbours_are before after most (place + 1))

-- ---- the words on the lines that begin before a place

abbrev pub words_before : List ℕ → List ℕ → ℕ → List (ℕ × ℕ)
words_before before after count = flat_map words_set (flat_map (line_from before after) (range_with_len 0 count))

-- a number of words of the line before stand from a place on
pub words_after : List ℕ → List ℕ → ℕ → ℕ
words_after before after place = cond (eqb (position_on_line before after place) 0) 0 (length (neighbours before after (8 - position_on_line before after place) place))

words_before_more : (before after : List ℕ) (place : ℕ) → words_before before after (place + 1) ≡ words_before before after place ++ flat_map words_set (line_from before after place)
words_before_more before after place =
    ap (flat_map words_set) (sym (range_flat (line_from before after) 0 place place (omega arith)))
    ∙ flat_map-append words_set (flat_map (line_from before after) (range_with_len 0 place)) (line_from before after place)

few_in_front : (before after : List ℕ) (place : ℕ) → position_on_line before after place < 8
few_in_front before after zero = omega (arith, none_at_first before after)
few_in_front before after (suc place) = grind (arith, cases_Bool, in_front_of_next, in_front_of_same)

-- a line begins
one_line : (before after : List ℕ) (place : ℕ) → begins_line before after place ≡ true → words_before before after (place + 1) ≡ words_before before after place ++ placed place (neighbours before after 8 place)
one_line before after place e = grind (arith, words_before_more, words_before, cond-true, append-nil)

behind_first : (before after : List ℕ) (place : ℕ) → position_on_line before after place ≡ 0 → words_after before after place ≡ 0
unfolding words_after
behind_first before after place e = cond-true (eqb (position_on_line before after place) 0) _ _ (eq-eqb (position_on_line before after place) 0 e)

behind_more : (before after : List ℕ) (place : ℕ) → position_on_line before after place ≢ 0 → words_after before after place ≡ length (neighbours before after (8 - position_on_line before after place) place)
unfolding words_after
behind_more before after place e = cond-false (eqb (position_on_line before after place) 0) _ _ (ne_eqb (position_on_line before after place) 0 e)

behind_same : (before after : List ℕ) (place : ℕ) → differs before after place ≡ false → words_after before after place ≡ 0
behind_same before after place e = grind (arith, cases_eq, words_after, behind_first, behind_more, no_neighbour)

-- behind a word that differs there are as many as may still come
behind_next : (before after : List ℕ) (place : ℕ) → differs before after place ≡ true → words_after before after (suc place) ≡ length (neighbours before after (7 - position_on_line before after place) (place + 1))
behind_next before after place e = grind (arith, cases_lt, in_front_of_next, words_after, behind_more, add-one, few_in_front, behind_first, no_more)

-- over one place more
abbrev AreSoFar : List ℕ → List ℕ → ℕ → Type 0
AreSoFar before after place = words_before before after place ≡ changes before after (place + words_after before after place)

abbrev AreAfter : List ℕ → List ℕ → ℕ → Type 0
AreAfter before after place = words_before before after (place + 1) ≡ changes before after (suc place + words_after before after (suc place))

step_same : (before after : List ℕ) (place : ℕ) → differs before after place ≡ false → AreSoFar before after place → AreAfter before after place
step_same before after place same so_far = grind (arith, words_after, behind_same, behind_first, in_front_of_same, changes_same, words_before_more, cond-false, append-nil)

step_first : (before after : List ℕ) (place : ℕ) → differs before after place ≡ true → position_on_line before after place ≡ 0 → AreSoFar before after place → AreAfter before after place
step_first before after place other first so_far = grind (arith, words_after, behind_first, one_line, neighbours_are, few_in_front, one_neighbour, behind_next)

step_later : (before after : List ℕ) (place : ℕ) → differs before after place ≡ true → position_on_line before after place ≢ 0 → AreSoFar before after place → AreAfter before after place
step_later before after place other later so_far = grind (arith, words_after, behind_more, ne_eqb, words_before_more, cond-false, append-nil, few_in_front, one_neighbour, behind_next)

-- the words on the lines so far are the changes, some of them ahead
words_are : (before after : List ℕ) (place : ℕ) → AreSoFar before after place
words_are before after zero = grind (arith, behind_first, none_at_first)
words_are before after (suc place) = ap (words_before before after) (sym (add-one place)) ∙ elim (cases_Bool (differs before after place)) [
  | inl other ↦ grind (arith, cases_eq, step_first, step_later, words_are before after place)
  | inr same ↦ step_same before after place same (words_are before after place)
]

-- ---- all lines

past : (before after : List ℕ) (place : ℕ) → length before ≤ place → length after ≤ place → differs before after place ≡ false
past before after place short as_short = ap not (eq-eqb (get_or before place 0) (get_or after place 0) (get_or_past before place 0 short ∙ sym (get_or_past after place 0 as_short)))

pub words_on_lines : (before after : List ℕ) → length before ≡ place_count → length after ≡ place_count → flat_map words_set (changed_lines before after) ≡ changes before after place_count
unfolding places
words_on_lines before after long as_long =
    words_are before after place_count
    ∙ ap (changes before after) (sym (at_end place_count (words_after before after place_count) (behind_same before after place_count (past before after place_count (omega (arith, long)) (omega (arith, as_long))))))

pub words_of_central : (before after ks : List ℕ) → flat_map words_set (flat_map (central_line before after) ks) ≡ flat_map (change before after) ks
words_of_central before after [] = refl
words_of_central before after (k ∷ ks) = grind (arith, flat_map-append, cases_Bool, cond-true, cond-false, change, words_of_central before after ks)

-- ---- what they make of the load

overwritten-append : (memory : List ℕ) (xs ys : List (ℕ × ℕ)) → overwritten memory (xs ++ ys) ≡ overwritten (overwritten memory xs) ys
overwritten-append memory [] ys = refl
overwritten-append memory ((place, w) ∷ xs) ys = overwritten-append (set memory place w) xs ys

-- the load before a place is overwritten
half : List ℕ → List ℕ → ℕ → List ℕ
half before after place = take place after ++ drop place before

half_more : (before after : List ℕ) (place : ℕ) → place < length after → take place after ++ get_or after place 0 ∷ drop (place + 1) before ≡ half before after (place + 1)
unfolding half
half_more before after place lt = grind (arith, append_assoc, take_more)

set_half : (before after : List ℕ) (place : ℕ) → place < length after → place < length before → set (half before after place) place (get_or after place 0) ≡ half before after (place + 1)
unfolding half
set_half before after place lt as_lt =
    let long : length (take place after) ≡ place = length-take place after ∙ omega (arith, lt) in
    cc (drop_more before place 0 as_lt, set-append_seam (take place after) (get_or before place 0) (drop (place + 1) before) (get_or after place 0), half_more before after place lt)

same_half : (before after : List ℕ) (place : ℕ) → place < length after → place < length before → get_or before place 0 ≡ get_or after place 0 → half before after place ≡ half before after (place + 1)
unfolding half
same_half before after place lt as_lt e = grind (arith, drop_more, half_more)

half_step : (before after : List ℕ) (count : ℕ) → count < length after → count < length before → overwritten before (changes before after count) ≡ half before after count → overwritten before (changes before after (count + 1)) ≡ half before after (count + 1)
half_step before after count lt as_lt so_far = grind (arith, cases_Bool, changes, half, changes_more, overwritten-append, set_half, changes_same, same_half, eqb-true, not-false)

overwritten_half : (before after : List ℕ) (count : ℕ) → count ≤ length after → length before ≡ length after → overwritten before (changes before after count) ≡ half before after count
unfolding half
overwritten_half before after zero le same = refl
overwritten_half before after (suc count) le same =
    ap (λ (k : ℕ). overwritten before (changes before after k)) (sym (add-one count))
    ∙ half_step before after count (omega (arith, le)) (omega (arith, le, same)) (overwritten_half before after count (omega (arith, le)) same)
    ∙ ap (half before after) (add-one count)

pub overwritten_whole : (before after : List ℕ) (count : ℕ) → count ≡ length after → length before ≡ length after → overwritten before (changes before after count) ≡ after
unfolding half
overwritten_whole before after count all same = grind (arith, overwritten_half, take_all, drop_all, append-nil)

-- ---- no word stands there already

new_one : (before after : List ℕ) (place : ℕ) → differs before after place ≡ true → All (IsNew before) ((place, get_or after place 0) ∷ [])
new_one before after place e = All-cons (IsNew before) (place, get_or after place 0) [] (eqb-false _ _ (not-true _ e)) (All-nil (IsNew before))

new_step : (before after : List ℕ) (count : ℕ) → All (IsNew before) (changes before after count) → All (IsNew before) (changes before after (count + 1))
new_step before after count so_far = by (cases_Bool (differs before after count))
  where
    by : (differs before after count ≡ true) ⊎ (differs before after count ≡ false) → All (IsNew before) (changes before after (count + 1))
    by (inl other) = subst (All (IsNew before)) (sym (changes_more before after count other)) (All-append (IsNew before) (changes before after count) ((count, get_or after count 0) ∷ []) so_far (new_one before after count other))
    by (inr same) = subst (All (IsNew before)) (sym (changes_same before after count same)) so_far

pub all_new : (before after : List ℕ) (count : ℕ) → All (IsNew before) (changes before after count)
all_new before after zero = All-nil (IsNew before)
all_new before after (suc count) = subst (λ (k : ℕ). All (IsNew before) (changes before after k)) (add-one count) (new_step before after count (all_new before after count))

-- ---- a section

none_changed : (before after ks : List ℕ) → list_any (differs before after) ks ≡ false → flat_map (change before after) ks ≡ []
none_changed before after [] e = refl
none_changed before after (k ∷ ks) e = by (cases_Bool (differs before after k)) e (none_changed before after ks)
  where
    by : (differs before after k ≡ true) ⊎ (differs before after k ≡ false) → list_any (differs before after) (k ∷ ks) ≡ false → (list_any (differs before after) ks ≡ false → flat_map (change before after) ks ≡ []) → flat_map (change before after) (k ∷ ks) ≡ []
    by h e rest = grind (arith, cond-false)

pub section_words : (n : ℕ) (before after : MachineState) → AreMemories n before after → flat_map words_set (changed_section before after n) ≡ changes (processor_of n before).memory (processor_of n after).memory place_count
unfolding places
section_words n before after m = by (cases_Bool (has_changes (processor_of n before).memory (processor_of n after).memory))
  where
    by : (has_changes (processor_of n before).memory (processor_of n after).memory ≡ true) ⊎ (has_changes (processor_of n before).memory (processor_of n after).memory ≡ false) → flat_map words_set (changed_section before after n) ≡ changes (processor_of n before).memory (processor_of n after).memory place_count
    by (inl some) =
        ap (flat_map words_set) (cond-true (has_changes (processor_of n before).memory (processor_of n after).memory) (section n ∷ changed_lines (processor_of n before).memory (processor_of n after).memory) [] some)
        ∙ words_on_lines (processor_of n before).memory (processor_of n after).memory m.old m.new
    by (inr none) =
        ap (flat_map words_set) (cond-false (has_changes (processor_of n before).memory (processor_of n after).memory) (section n ∷ changed_lines (processor_of n before).memory (processor_of n after).memory) [] none)
        ∙ sym (none_changed (processor_of n before).memory (processor_of n after).memory (range_with_len 0 place_count) none)
