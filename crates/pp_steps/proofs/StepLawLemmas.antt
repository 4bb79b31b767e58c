-- The text of some steps, one after another; the steps on the lines of a processor are all its steps
-- while it ran.
use Rattle.std.proofs.Common.{◌≡◌, ◌≢◌, ℕ, ◌<◌, get_or, Bool, true, false, cond, List, [], ◌∷◌, ◌++◌, refl, sym, ap, ◌∙◌, append_assoc, append-nil, arith, ◌+◌, ◌⊎◌, suc, drop}
use Rattle.std.specs.List.{flat_map, fold, filter, prefix_len}
use Rattle.std.proofs.lemmas.Bool.{cond-false, cond-true, eq-eqb, ne_eqb, cases_eq}
use Rattle.std.proofs.lemmas.List.Sums.{fold-append}
use Rattle.pp_numbers.specs.PpNo.{processor_count, processor_index}
use Rattle.pp_run.specs.RunSteps.{RunStep, seen_of}
use Rattle.pp_run.proofs.RunStepLemmas.{seen-append, seen_more, seen_other}
use Rattle.pp_steps.specs.Cursor.{each_cursor, line_at, no_cursor, past_step}
use Rattle.pp_steps.specs.HeldSpells.{Spells, each_spells, last_of, no_spells, progress_of, with_step, is_held_with}
use Rattle.pp_steps.specs.StepsText.{kind_text, line_kind, line_text, lines_from, with_lines}
use Rattle.pp_steps.specs.declared.{cursor.Cursor.Cursor, cursor.LineKind.LineKind}
use Rattle.pp_steps.specs.declared.cursor.LineKind.TheVariants.{NoLine, HeldSteps}
use Rattle.pp_run.specs.declared.progress.Progress.{Progress}
use Rattle.pp_steps.proofs.CountedSpells.{made_at}
use Rattle.pp_steps.proofs.SpellLemmas.{line_is, first_of, with_other, with_same}
use Rattle.std.specs.Prelude.{replicate}
use Rattle.pp_channel.specs.declared.flags.Flags.{Flags}
use Rattle.pp_steps.specs.StepsLaw.{is_by, is_running, line_steps, steps_on}
use Rattle.pp_run.specs.declared.progress.Progress.TheVariants.{AtRest, Moved, Held}

-- ---- the steps of one processor

-- before others
pub seen_first : (step : RunStep) (steps : List RunStep) → seen_of progress_of step.processor (step ∷ steps) ≡ progress_of step ∷ seen_of progress_of step.processor steps
seen_first step steps = grind (arith, cond-true, eq-eqb)

pub seen_past_first : (n : ℕ) (step : RunStep) (steps : List RunStep) → step.processor ≢ n → seen_of progress_of n (step ∷ steps) ≡ seen_of progress_of n steps
seen_past_first n step steps other = grind (arith, cond-false, ne_eqb)

-- the last
pub last_own : (past : List RunStep) (step : RunStep) → last_of (seen_of progress_of step.processor (past ++ step ∷ [])) ≡ progress_of step
last_own past step = grind (arith, seen_more, fold-append)

-- ---- the text

-- this text, and then that of the steps to come, is that of all
abbrev pub IsSoFar : List RunStep → List RunStep → List RunStep → List ℕ → Type 0
IsSoFar all past future text = text ++ flat_map line_text (lines_from past future) ≡ flat_map line_text (with_lines all)

pub nothing_so_far : (all : List RunStep) → IsSoFar all [] all []
nothing_so_far all = refl

-- a turn more
pub turn_told : (is_chosen : Bool) (all past future : List RunStep) (spells : List Spells) (cursors : List Cursor) (step : RunStep) (did : Progress) (kind : LineKind) (text : List ℕ)
    → processor_index step.processor < processor_count → did ≡ progress_of step → spells ≡ each_spells all → cursors ≡ each_cursor past
    → past ++ cond is_chosen (step ∷ future) future ≡ all
    → kind ≡ cond is_chosen (line_at (get_or spells (processor_index step.processor) no_spells) (get_or cursors (processor_index step.processor) no_cursor) did) NoLine
    → IsSoFar all past (cond is_chosen (step ∷ future) future) text
    → IsSoFar all (cond is_chosen (past ++ step ∷ []) past) future (text ++ kind_text kind step.processor step.before)
turn_told true all past future spells cursors step did kind text low made counted followed parts line so_far =
    let n = step.processor in
    let own = seen_of progress_of n past in
    let coming = seen_of progress_of n future in
    let own_spells = get_or spells (processor_index n) no_spells in
    let cursor = get_or cursors (processor_index n) no_cursor in
    let spells_are : own_spells ≡ fold with_step no_spells (own ++ progress_of step ∷ coming) =
    made_at with_step no_spells spells all n low counted
    ∙ ap (λ (steps : List RunStep). fold with_step no_spells (seen_of progress_of n steps)) (sym parts)
    ∙ ap (fold with_step no_spells) (seen-append progress_of n past (step ∷ future) ∙ ap (λ (ps : List Progress). own ++ ps) (seen_first step future)) in
    let is : kind ≡ line_kind (last_of own) (progress_of step) coming =
    line
    ∙ ap (line_at own_spells cursor) made
    ∙ ap (λ (x : Spells). line_at x cursor (progress_of step)) spells_are
    ∙ ap (λ (x : Cursor). line_at (fold with_step no_spells (own ++ progress_of step ∷ coming)) x (progress_of step)) (made_at past_step no_cursor cursors past n low followed)
    ∙ line_is own (progress_of step) coming in
    append_assoc text (kind_text kind n step.before) (flat_map line_text (lines_from (past ++ step ∷ []) future))
    ∙ ap (λ (x : LineKind). text ++ (kind_text x n step.before ++ flat_map line_text (lines_from (past ++ step ∷ []) future))) is
    ∙ so_far
turn_told false all past future spells cursors step did kind text low made counted followed parts line so_far = grind (arith, append-nil)

pub everything : (all past : List RunStep) (text : List ℕ) → IsSoFar all past [] text → text ≡ flat_map line_text (with_lines all)
everything all past text h = sym (append-nil text) ∙ h

-- the steps on the lines of these steps of one processor, behind a last one
abbrev pub steps_told : Progress → List Progress → List Progress
steps_told last [] = []
steps_told last (step ∷ steps) = steps_on (line_kind last step steps) step ++ steps_told step steps

-- how many of the steps belong to the line of the last
abbrev pub told_before : Progress → List Progress → ℕ
told_before (Held flags) steps = prefix_len (is_held_with flags) steps
told_before step steps = 0

-- ---- held steps in a row

-- those at the front, and then the others
with_first : (g : Flags) (step : Progress) (steps : List Progress) (b : Bool) → is_held_with g step ≡ b
    → replicate (prefix_len (is_held_with g) steps) (Held g) ++ filter is_running (drop (prefix_len (is_held_with g) steps) steps) ≡ filter is_running steps
    → replicate (prefix_len (is_held_with g) (step ∷ steps)) (Held g) ++ filter is_running (drop (prefix_len (is_held_with g) (step ∷ steps)) (step ∷ steps)) ≡ filter is_running (step ∷ steps)
with_first g step steps b e rest = grind (arith, with_same)

front : (g : Flags) (steps : List Progress) → replicate (prefix_len (is_held_with g) steps) (Held g) ++ filter is_running (drop (prefix_len (is_held_with g) steps) steps) ≡ filter is_running steps
front g [] = refl
front g (step ∷ steps) = with_first g step steps (is_held_with g step) refl (front g steps)

-- a line of held steps that begins here
begun : (last : Progress) (g : Flags) (steps : List Progress) → is_held_with g last ≡ false → steps_told (Held g) steps ≡ filter is_running (drop (prefix_len (is_held_with g) steps) steps)
    → steps_told last (Held g ∷ steps) ≡ filter is_running (Held g ∷ steps)
begun last g steps other rest =
    let k = prefix_len (is_held_with g) steps in
    let more : 1 + k ≡ suc k = omega arith in
    ap (λ (b : Bool). steps_on (cond b NoLine (HeldSteps (1 + k))) (Held g) ++ steps_told (Held g) steps) other
    ∙ ap (λ (j : ℕ). replicate j (Held g) ++ steps_told (Held g) steps) more
    ∙ ap (λ (ss : List Progress). Held g ∷ (replicate k (Held g) ++ ss)) rest
    ∙ ap (λ (ss : List Progress). Held g ∷ ss) (front g steps)

-- one that began before
gone_on : (f g : Flags) (steps : List Progress) → is_held_with g (Held f) ≡ true → steps_told (Held g) steps ≡ filter is_running (drop (prefix_len (is_held_with g) steps) steps)
    → steps_told (Held f) (Held g ∷ steps) ≡ filter is_running (drop (prefix_len (is_held_with f) (Held g ∷ steps)) (Held g ∷ steps))
gone_on f g steps same rest = grind (arith, steps_told, first_of, with_same)

apart : (f g : Flags) (steps : List Progress) → is_held_with g (Held f) ≡ false → prefix_len (is_held_with f) (Held g ∷ steps) ≡ 0
apart f g steps other = ap (λ (b : Bool). cond b (1 + prefix_len (is_held_with f) steps) 0) (with_other f g ∙ other)

after_held : (f g : Flags) (steps : List Progress) (b : Bool) → is_held_with g (Held f) ≡ b → steps_told (Held g) steps ≡ filter is_running (drop (prefix_len (is_held_with g) steps) steps)
    → steps_told (Held f) (Held g ∷ steps) ≡ filter is_running (drop (prefix_len (is_held_with f) (Held g ∷ steps)) (Held g ∷ steps))
after_held f g steps true e rest = gone_on f g steps e rest
after_held f g steps false e rest =
    begun (Held f) g steps e rest ∙ ap (λ (j : ℕ). filter is_running (drop j (Held g ∷ steps))) (sym (apart f g steps e))

told_all : (last : Progress) (steps : List Progress) → steps_told last steps ≡ filter is_running (drop (told_before last steps) steps)
told_all (Held f) [] = refl
told_all (Held f) (AtRest ∷ steps) = told_all AtRest steps
told_all (Held f) (Moved ∷ steps) = ap (λ (ss : List Progress). Moved ∷ ss) (told_all Moved steps)
told_all (Held f) (Held g ∷ steps) = after_held f g steps (is_held_with g (Held f)) refl (told_all (Held g) steps)
told_all last [] = refl
told_all last (AtRest ∷ steps) = told_all AtRest steps
told_all last (Moved ∷ steps) = ap (λ (ss : List Progress). Moved ∷ ss) (told_all Moved steps)
told_all last (Held g ∷ steps) = begun last g steps refl (told_all (Held g) steps)

-- ---- the lines of one processor

abbrev EventFits : ℕ → List RunStep → List RunStep → Type 0
EventFits n past steps =
    flat_map line_steps (filter (is_by n) (lines_from past steps)) ≡ steps_told (last_of (seen_of progress_of n past)) (seen_of progress_of n steps)

other_told : (n : ℕ) (past : List RunStep) (step : RunStep) (steps : List RunStep) → step.processor ≢ n → EventFits n (past ++ step ∷ []) steps → EventFits n past (step ∷ steps)
other_told n past step steps other rest = grind (arith, cond-false, ne_eqb, steps_told, seen_other, seen_past_first)

by_number : (n : ℕ) (past : List RunStep) (step : RunStep) (steps : List RunStep) → (step.processor ≡ n) ⊎ (step.processor ≢ n) → EventFits n (past ++ step ∷ []) steps → EventFits n past (step ∷ steps)
by_number n past step steps h rest = grind (arith, other_told, cond-true, eq-eqb, last_own, seen_first)

told_from : (n : ℕ) (past steps : List RunStep) → EventFits n past steps
told_from n past [] = refl
told_from n past (step ∷ steps) = by_number n past step steps (cases_eq step.processor n) (told_from n (past ++ step ∷ []) steps)

pub steps_all_told : (n : ℕ) (steps : List RunStep) → flat_map line_steps (filter (is_by n) (with_lines steps)) ≡ filter is_running (seen_of progress_of n steps)
steps_all_told n steps = told_from n [] steps ∙ told_all AtRest (seen_of progress_of n steps)
