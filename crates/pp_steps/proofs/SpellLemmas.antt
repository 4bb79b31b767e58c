-- The spells in which a processor is held, step by step.
use Rattle.std.proofs.Common.{◌≡◌, ℕ, zero, suc, ◌+◌, ◌≤◌, Bool, true, false, cond, List, [], ◌∷◌, ◌++◌, drop, get_or, refl, sym, ap, ◌∙◌, append-nil, append_assoc, arith}
use Rattle.std.specs.Prelude.{if◌then◌else◌}
use Rattle.std.specs.List.{fold, prefix_len}
use Rattle.std.proofs.lemmas.List.{drop-drop, get_or-drop}
use Rattle.std.proofs.lemmas.Bool.{and_parts}
use Rattle.pp_channel.specs.declared.flags.Flags.{Flags}
use Rattle.pp_steps.specs.HeldSpells.{Spells, current_spell, continues_spell, is_held_with, last_of, no_spells, with_step}
use Rattle.pp_steps.specs.StepsText.{line_kind}
use Rattle.pp_steps.specs.Cursor.{line_at, no_cursor, past_step}
use Rattle.pp_steps.specs.declared.cursor.Cursor.{Cursor}
use Rattle.pp_run.specs.declared.progress.Progress.{Progress}
use Rattle.pp_run.specs.declared.progress.Progress.TheVariants.{AtRest, Moved, Held}

-- ---- flags

-- a step is held with the flags that it is held with
with_itself : (g : Flags) → is_held_with g (Held g) ≡ true
with_itself g = grind arith

pub with_other : (f g : Flags) → is_held_with f (Held g) ≡ is_held_with g (Held f)
with_other f g = grind arith

pub with_same : (f g : Flags) → is_held_with g (Held f) ≡ true → g ≡ f
with_same f g e = grind (arith, and_parts)

-- ---- one step more

-- the lengths of the stretches of equally held steps, where `last` is the step before them: a step
-- that is held like it begins no stretch of its own
abbrev held_counts : Progress → List Progress → List ℕ
held_counts last [] = []
held_counts last (Held flags ∷ steps) =
    if is_held_with flags last then held_counts (Held flags) steps
    else prefix_len (is_held_with flags) (Held flags ∷ steps) ∷ held_counts (Held flags) steps
held_counts last (step ∷ steps) = held_counts step steps

pub first_of : (g : Flags) (steps : List Progress) → prefix_len (is_held_with g) (Held g ∷ steps) ≡ 1 + prefix_len (is_held_with g) steps
first_of g steps = ap (λ (b : Bool). cond b (1 + prefix_len (is_held_with g) steps) 0) (with_itself g)

-- a step that is not held like the last: the last spell is over
over : (last step : Progress) (current : ℕ) (steps : List Progress) → continues_spell last step ≡ false
    → current_spell last current [] ++ (current_spell step 1 steps ++ held_counts step steps) ≡ current_spell last current (step ∷ steps) ++ held_counts last (step ∷ steps)
over last step current steps ends = grind (arith, first_of, with_other, with_itself)

-- a step that is: it belongs to the last spell
longer : (last step : Progress) (current : ℕ) (steps : List Progress) → continues_spell last step ≡ true
    → current_spell step (current + 1) steps ++ held_counts step steps ≡ current_spell last current (step ∷ steps) ++ held_counts last (step ∷ steps)
longer AtRest AtRest current steps goes = absurd (cc)
longer AtRest Moved current steps goes = absurd (cc)
longer AtRest (Held g) current steps goes = absurd (cc)
longer Moved AtRest current steps goes = absurd (cc)
longer Moved Moved current steps goes = absurd (cc)
longer Moved (Held g) current steps goes = absurd (cc)
longer (Held f) AtRest current steps goes = absurd (cc)
longer (Held f) Moved current steps goes = absurd (cc)
longer (Held f) (Held g) current steps goes = grind (arith, with_same, with_other, held_counts)

one_step : (counts : List ℕ) (current : ℕ) (last step : Progress) (steps : List Progress) (b : Bool) → continues_spell last step ≡ b
    → cond b counts (counts ++ current_spell last current []) ++ (current_spell step (cond b (current + 1) 1) steps ++ held_counts step steps)
    ≡ counts ++ (current_spell last current (step ∷ steps) ++ held_counts last (step ∷ steps))
one_step counts current last step steps b goes = grind (arith, longer, append_assoc, over)

-- the counts of all steps, those so far and those that follow
abbrev all_spells : Spells → List Progress → List ℕ
all_spells spells steps = spells.counts ++ (current_spell spells.last spells.current steps ++ held_counts spells.last steps)

past_steps : (spells : Spells) (steps : List Progress) → all_spells (fold with_step spells steps) [] ≡ all_spells spells steps
past_steps spells [] = refl
past_steps spells (step ∷ steps) = grind (arith, one_step, past_steps (with_step spells step) steps)

-- a count is that of a stretch
count_is : (steps : List Progress) (spell : ℕ) → let spells = fold with_step no_spells steps in get_or spells.counts spell spells.current ≡ get_or (held_counts AtRest steps) spell spells.current
count_is steps spell =
    let spells = fold with_step no_spells steps in
    or_last spells.counts spells.last ∙ ap (λ (ks : List ℕ). get_or ks spell spells.current) (past_steps no_spells steps)
  where
    current : ℕ
    current = (fold with_step no_spells steps).current

    at_end : (counts : List ℕ) (i : ℕ) → get_or counts i current ≡ get_or (counts ++ (current + 0) ∷ []) i current
    at_end [] zero = omega arith
    at_end [] (suc i) = refl
    at_end (n ∷ counts) zero = refl
    at_end (n ∷ counts) (suc i) = at_end counts i

    or_last : (counts : List ℕ) (last : Progress) → get_or counts spell current ≡ get_or (counts ++ (current_spell last current [] ++ held_counts last [])) spell current
    or_last counts last = grind (arith, at_end, current, append-nil)

-- ---- the cursor

-- the spells from the cursor on are those of the steps to come
abbrev CountsOf : List ℕ → Cursor → List Progress → Type 0
CountsOf counts cursor steps = drop cursor.spells counts ≡ held_counts cursor.last steps

passes : (counts : List ℕ) (cursor : Cursor) (step : Progress) (steps : List Progress) → CountsOf counts cursor (step ∷ steps) → CountsOf counts (past_step cursor step) steps
passes counts cursor AtRest steps h = h
passes counts cursor Moved steps h = h
passes counts cursor (Held f) steps h = by_test (is_held_with f cursor.last) h
  where
    by_test : (b : Bool) → drop cursor.spells counts ≡ cond b (held_counts (Held f) steps) (prefix_len (is_held_with f) (Held f ∷ steps) ∷ held_counts (Held f) steps)
        → drop (cond b cursor.spells (cursor.spells + 1)) counts ≡ held_counts (Held f) steps
    by_test true h = h
    by_test false h = sym (drop-drop 1 cursor.spells counts) ∙ ap (drop 1) h

all_pass : (counts : List ℕ) (cursor : Cursor) (own coming : List Progress) → CountsOf counts cursor (own ++ coming) → CountsOf counts (fold past_step cursor own) coming
all_pass counts cursor [] coming h = h
all_pass counts cursor (step ∷ own) coming h = all_pass counts (past_step cursor step) own coming (passes counts cursor step (own ++ coming) h)

last_is : (cursor : Cursor) (own : List Progress) → (fold past_step cursor own).last ≡ fold (λ last step. step) cursor.last own
last_is cursor [] = refl
last_is cursor (Held f ∷ own) = last_is (past_step cursor (Held f)) own
last_is cursor (other ∷ own) = last_is (past_step cursor other) own

-- the line of a step that comes after some steps of its processor and before others
pub line_is : (own : List Progress) (step : Progress) (coming : List Progress) → line_at (fold with_step no_spells (own ++ step ∷ coming)) (fold past_step no_cursor own) step ≡ line_kind (last_of own) step coming
line_is own AtRest coming = refl
line_is own Moved coming = refl
line_is own (Held f) coming =
    by_test (last_of own) (fold past_step no_cursor own) (last_is no_cursor own) (all_pass (held_counts AtRest all) no_cursor own (Held f ∷ coming) refl) (is_held_with f (last_of own)) refl
  where
    all : List Progress
    all = own ++ Held f ∷ coming

    by_test : (last : Progress) (cursor : Cursor) → cursor.last ≡ last → CountsOf (held_counts AtRest all) cursor (Held f ∷ coming) → (b : Bool) → is_held_with f last ≡ b
        → line_at (fold with_step no_spells all) cursor (Held f) ≡ line_kind last (Held f) coming
    by_test last cursor is h true e = rw (is, e) refl
    by_test last cursor is h false e =
        let spells = fold with_step no_spells all in
        let same : cursor.spells ≡ cursor.spells + 0 = omega arith in
        let here : drop cursor.spells (held_counts AtRest all) ≡ prefix_len (is_held_with f) (Held f ∷ coming) ∷ held_counts (Held f) coming = rw (is, e) at h in
        let count : get_or spells.counts cursor.spells spells.current ≡ 1 + prefix_len (is_held_with f) coming =
        count_is all cursor.spells ∙ ap (λ (i : ℕ). get_or (held_counts AtRest all) i spells.current) same
        ∙ sym (get_or-drop cursor.spells (held_counts AtRest all) 0 spells.current) ∙ ap (λ (ks : List ℕ). get_or ks 0 spells.current) here ∙ first_of f coming in
        rw (is, e, count) refl

-- ---- no more than the steps

pub current_grows : (spells : Spells) (step : Progress) → (with_step spells step).current ≤ spells.current + 1
current_grows spells step = grind arith

pub spells_grow : (cursor : Cursor) (step : Progress) → (past_step cursor step).spells ≤ cursor.spells + 1
spells_grow cursor step = grind arith
