use Rattle.std.proofs.Common.{◌≡◌, ◌+◌, ◌∙◌, sym, arith}
use Rattle.std.proofs.lemmas.Bool.{ne_eqb}
use Rattle.pp_text.proofs.PrintingLemmas.{prints_nothing, prints_on, range_flat}
use Rattle.pp_steps.specs.StepLine.{place_text}
use Rattle.pp_text.specs.TextWriter.{Prints}
use Rattle.pp_steps.proofs.PlaceLemmas.{same_place}
use Rattle.pp_steps.proofs.step_line.print_range.Goals as goal
use Rattle.pp_steps.proofs.step_line.print_range.Goals.{then-get, else-get}

pub loop-i-init : goal.loop-i-init
loop-i-init g c = prints_nothing _ _

pub loop-i-preserved : goal.loop-i-preserved
loop-i-preserved g c =
    let place : c.truncated-place.result ≡ c.args.first + c.loop-i.i = omega (arith, c.truncated-place.ensures, c.loop-i-test.true, c.requires) in
    let line : Prints g.W.Write.contents c.loop-i.text c.if-get.text (place_text c.args.old.now.memory c.args.new.now.memory c.truncated-place.result) = elim c.if-get.branch [
      | then-get w ↦ grind (arith, ne_eqb)
      | else-get w ↦ rw (w.text-is, same_place c.args.old.now.memory c.args.new.now.memory c.truncated-place.result (sym c.get-word.ensures.value ∙ sym c.get-in-loop-i-2.ensures.value ∙ sym w.if-get.false ∙ c.get-in-loop-i.ensures.value ∙ c.get.ensures.value)) (prints_nothing _ _)
    ] in
    prints_on _ _ _ _ _ _ _ c.loop-i.invariant line
    (range_flat (place_text c.args.old.now.memory c.args.new.now.memory) c.args.first c.loop-i.i c.truncated-place.result place)
