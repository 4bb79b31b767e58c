-- What the steps chosen make of each processor, turn by turn of the barrel.
use Rattle.std.proofs.Common.{◌≡◌, ℕ, ◌+◌, ◌<◌, ◌≤◌, set, get_or, Bool, true, false, cond, List, [], ◌∷◌, ◌++◌, length, refl, sym, ap, ◌∙◌, arith}
use Rattle.std.specs.Prelude.{replicate}
use Rattle.std.specs.List.{fold}
use Rattle.std.proofs.lemmas.List.{get_or_default}
use Rattle.std.proofs.lemmas.List.Sums.{fold-append}
use Rattle.pp_numbers.proofs.TableLemmas.{length-tabulate, tabulate_const}
use Rattle.pp_numbers.specs.PpNo.{processor_count, processor_index}
use Rattle.pp_run.specs.RunSteps.{RunStep, seen_of}
use Rattle.pp_run.proofs.RunStepLemmas.{counted_at, counted_more, few_seen}
use Rattle.pp_steps.specs.HeldSpells.{each_after, progress_of}
use Rattle.pp_run.specs.declared.progress.Progress.{Progress}

pub none_made : {X : Type 0} (next : X → Progress → X) (first : X) → replicate processor_count first ≡ each_after next first []
none_made {X} next first = sym (tabulate_const processor_count (λ (place : ℕ). first) first (λ place. refl))

-- at the place of a processor
pub made_at : {X : Type 0} (next : X → Progress → X) (first : X) (xs : List X) (steps : List RunStep) (n : ℕ) → processor_index n < processor_count → xs ≡ each_after next first steps
    → get_or xs (processor_index n) first ≡ fold next first (seen_of progress_of n steps)
made_at next first xs steps n low are = counted_at progress_of (fold next first) first xs steps n (processor_index n) are refl low

-- the same, of a list in which it was looked for at this place
pub made_here : {X : Type 0} (next : X → Progress → X) (first other : X) (xs : List X) (steps : List RunStep) (n i : ℕ) → i ≡ processor_index n → i < processor_count → xs ≡ each_after next first steps → other ≡ get_or xs i other
    → other ≡ get_or xs (processor_index n) first
made_here next first other xs steps n i at low are is = grind (arith, get_or_default, length-tabulate)

-- a turn more, whose step is chosen or not
pub made_more : {X : Type 0} (next : X → Progress → X) (first : X) (xs : List X) (is_chosen : Bool) (past : List RunStep) (step : RunStep) (did : Progress) → processor_index step.processor < processor_count → did ≡ progress_of step → xs ≡ each_after next first past
    → cond is_chosen (set xs (processor_index step.processor) (next (get_or xs (processor_index step.processor) first) did)) xs ≡ each_after next first (cond is_chosen (past ++ step ∷ []) past)
made_more next first xs false past step did low made are = are
made_more {X} next first xs true past step did low made are =
    let n = step.processor in
    let own = seen_of progress_of n past in
    counted_more progress_of (fold next first) first xs past step n (processor_index n) _ are refl low refl
    (ap (λ (x : X). next x did) (made_at next first xs past n low are) ∙ ap (next (fold next first own)) made ∙ sym (fold-append next first own (progress_of step ∷ [])))

-- what grows by one at most in a step is no more than the steps
pub made_few : {X : Type 0} (next : X → Progress → X) (first : X) (size : X → ℕ) → ((x : X) (step : Progress) → size (next x step) ≤ size x + 1)
    → (xs : List X) (steps : List RunStep) (n : ℕ) → processor_index n < processor_count → xs ≡ each_after next first steps → size (get_or xs (processor_index n) first) ≤ size first + length steps
made_few {X} next first size grows xs steps n low are = omega (arith, ap size (made_at next first xs steps n low are), few first (seen_of progress_of n steps), few_seen progress_of n steps)
  where
    few : (x : X) (own : List Progress) → size (fold next x own) ≤ size x + length own
    few x [] = omega arith
    few x (step ∷ own) = omega (arith, few (next x step) own, grows x step)
