use Rattle.std.proofs.Common.{◌≡◌, ◌<◌, ℕ, arith, ap, ◌∙◌, sym, subst, slice_index}
use Rattle.pp_word.specs.Address.{place_count}
use Rattle.pp_processor.specs.Processor.{Processor}
use Rattle.pp_text.proofs.PrintingLemmas.{prints_on}
use Rattle.pp_processor.specs.Stores.{IsApart}
use Rattle.pp_steps.proofs.PlaceLemmas.{places_here, places_round}
use Rattle.pp_steps.proofs.step_line.print_places.Goals as goal

pub returns-then-first-le-PLACES : goal.returns-then-first-le-PLACES
returns-then-first-le-PLACES g c = grind (arith, slice_index, places_here)

pub returns-else-first-le-PLACES : goal.returns-else-first-le-PLACES
returns-else-first-le-PLACES g c = λ answer keeps is.
    let is_first = c.from-first.ensures ∙ c.get.ensures.value in
    let old = c.args.old.now.memory in
    let new = c.args.new.now.memory in
    let low : c.from-first.result < place_count = omega (arith, c.from-first.ensures, c.get.ensures.small) in
    let same : (place : ℕ) → IsApart place c.from-first.result → slice_index new place ≡ slice_index old place = λ place apart.
    ap (λ (pp : Processor). slice_index pp.memory place) is ∙ keeps answer place (subst (IsApart place) is_first apart) in
    prints_on _ _ _ _ _ _ _ c.print_range-else-first-le-PLACES.ensures c.print_range-else-first-le-PLACES-2.ensures
    (sym (places_round old new c.from-first.result low c.if-first-le-PLACES.false same))
