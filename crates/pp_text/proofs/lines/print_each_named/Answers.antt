use Rattle.std.proofs.Common.{◌≡◌, ℕ, List, [], true, false, rules, arith, below_more}
use Rattle.std.proofs.lemmas.Bool.{and_parts}
use Rattle.std.specs.Prelude.{IsTrue, if◌then◌else◌}
use Rattle.pp_numbers.specs.PpNo.{all_processors, is_named, processor_count, processor_number, processor_places}
use Rattle.pp_text.proofs.PrintingLemmas.{prints_nothing, prints_on, walk_zero, walk_more}
use Rattle.pp_text.specs.TextWriter.{Prints}
use Rattle.pp_text.proofs.lines.print_each_named.Goals as goal
use Rattle.pp_text.proofs.lines.print_each_named.Goals.{then-named-index, else-named-index}

pub loop-place-init : goal.loop-place-init
loop-place-init g c = record {
  text = rw (walk_zero _ processor_number) (prints_nothing _ _);
  fits = λ k within. absurd (omega (arith, within));
}

pub loop-place-preserved : goal.loop-place-preserved
loop-place-preserved g c =
    let named = c.args.named.now in
    let lines = c.args.lines.now in
    let n = c.at-n.result in
    let text_of : ℕ → List ℕ = λ k. if is_named named k then g.L.Lines.text_of lines k else [] in
    let step : Prints g.W.Write.contents c.loop-place.text c.if-named-index.text (text_of n) × (IsTrue (is_named named n) → g.L.Lines.Fits lines n) =
    elim c.if-named-index.branch [
      | then-named-index w ↦ let is : is_named named n ≡ true = search rules in (rw (w.text-is, is) w.print.ensures.text, λ _. w.print.ensures.fits)
      | else-named-index w ↦ let is : is_named named n ≡ false = search rules in (rw (w.text-is, is) (prints_nothing _ _), λ yes. absurd (cc))
    ] in record {
      text = prints_on _ _ _ _ _ _ _ c.loop-place.invariant.text (rw c.at-n.ensures.number at step.0)
          (walk_more text_of processor_number c.loop-place.place);
      fits = grind (arith, below_more);
    }

pub returns-clause-text : goal.returns-clause-text
unfolding all_processors
returns-clause-text g c = let all : c.loop-place.place ≡ processor_count = omega arith in rw all at c.loop-place.invariant.text

pub returns-clause-fits : goal.returns-clause-fits
returns-clause-fits g c = grind (arith, and_parts, processor_places.number_of_place, processor_places.place_below)
