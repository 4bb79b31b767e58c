-- The steps that are drawn, with one step more.
use Rattle.std.proofs.Common.{◌≡◌, ℕ, ◌<◌, Bool, cond, List, [], ◌∷◌, ◌++◌, map, set, get_or, Option, None, sym, ap, ◌∙◌, append-nil, arith}
use Rattle.std.specs.List.{filter}
use Rattle.std.proofs.lemmas.List.{map-append}
use Rattle.std.proofs.lemmas.List.Elements.{filter-append}
use Rattle.std.proofs.lemmas.List.Sums.{fold-append}
use Rattle.pp_numbers.specs.PpNo.{each_processor, processor_count, processor_index}
use Rattle.pp_numbers.specs.declared.window.Window.{Window}
use Rattle.pp_run.specs.RunSteps.{RunStep, seen_of}
use Rattle.pp_run.proofs.RunStepLemmas.{counted_at, counted_more}
use Rattle.pp_draw.specs.SeenStep.{earlier, earlier_with, is_shown, seen}
use Rattle.pp_draw.specs.declared.seen_step.SeenStep.{SeenStep}

-- the last of each processor before the window
pub earlier_more : (w : Window) (now : List (Option SeenStep)) (steps : List RunStep) (step : RunStep) (n i : ℕ) (d : Option SeenStep)
    → now ≡ each_processor (λ k. earlier w (seen_of seen k steps)) → i ≡ processor_index n → i < processor_count → step.processor ≡ n
    → set now i (earlier_with w (get_or now i d) (seen step)) ≡ each_processor (λ k. earlier w (seen_of seen k (steps ++ step ∷ [])))
earlier_more w now steps step n i d are is within own =
    counted_more seen (earlier w) None now steps step n i _ are is within own
    (ap (λ o. earlier_with w o (seen step)) (counted_at seen (earlier w) d now steps n i are is within)
    ∙ sym (fold-append (earlier_with w) None (seen_of seen n steps) (seen step ∷ [])))

-- those that are shown
pub shown_more : (w : Window) (now : List SeenStep) (steps : List RunStep) (step : RunStep) (b : Bool) → now ≡ filter (is_shown w) (map seen steps) → is_shown w (seen step) ≡ b
    → cond b (now ++ seen step ∷ []) now ≡ filter (is_shown w) (map seen (steps ++ step ∷ []))
shown_more w now steps step b are is = grind (arith, map-append, filter-append, append-nil)
