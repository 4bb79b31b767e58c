use Rattle.std.proofs.Common.{◌≡◌, Bool, cond, codes, [], ℕ, List, Bor, sym, ap, ◌∙◌}
use Rattle.std.specs.Option.{unwrap_or}
use Rattle.pp_text.specs.TextWriter.{Prints}
use Rattle.pp_draw.specs.Condition.{face_of}
use Rattle.pp_draw.specs.Lane.{band_element}
use Rattle.pp_text.proofs.PrintingLemmas.{◌▹◌, prints_nothing}
use Rattle.pp_draw.proofs.lane.print_band.Goals.{else-part, in-Some, in_default, then-part}
use Rattle.pp_draw.proofs.lane.print_band.Goals as goal

pub returns : goal.returns
unfolding band_element
returns g c =
    let now : Bor (List ℕ) → List ℕ = λ text. text.now in
    let words : Bool → List ℕ = λ b. cond b (codes " lost") [] in
    let lost : c.if-part.lost.now ≡ words c.args.part.now.is_lost =
    elim c.if-part.branch [
      | then-part w ↦ ap now w.lost-is ∙ ap words (sym w.if-part.true)
      | else-part w ↦ ap now w.lost-is ∙ ap words (sym w.if-part.false)
    ] in
    let label : Prints g.W.Write.contents c.print-4.new.self c.match-face.text (unwrap_or (face_of c.args.part.now.look).label []) =
    elim c.match-face.branch [
      | in-Some w ↦ rw (w.text-is, sym c.face-face.ensures.label ∙ w.in-Some.is) w.print-in-Some.ensures
      | in_default w ↦ rw (w.text-is, sym c.face-face.ensures.label ∙ w.in_default.is) (prints_nothing _ _)
    ] in
    (rw (c.class.ensures, c.saturating_sub-width.ensures) at c.print_rectangle_tag.ensures) ▹ c.print.ensures ▹ c.print-2.ensures ▹ c.print-3.ensures
    ▹ (rw c.face-face.ensures.words at c.print-4.ensures) ▹ label ▹ (rw lost at c.print-5.ensures)
    ▹ c.print-6.ensures ▹ c.print_short_decimal.ensures ▹ c.print-7.ensures ▹ c.print_short_decimal-2.ensures ▹ c.print-8.ensures
