use Rattle.std.proofs.Common.{◌≡◌, ℕ, ◌+◌, ◌%◌, Bool, cond, sym, ap, ◌∙◌}
use Rattle.std.proofs.lemmas.Bool.{eq-eqb, ne_eqb}
use Rattle.pp_text.specs.TextWriter.{Prints}
use Rattle.pp_text.proofs.PrintingLemmas.{◌▹◌, prints_nothing}
use Rattle.pp_draw.specs.Frame.{are_few, tick_text}
use Rattle.pp_draw.proofs.RowLemmas.{none_printed, one_printed}
use Rattle.pp_draw.proofs.frame.print_ticks.Goals as goal
use Rattle.pp_draw.proofs.frame.print_ticks.Goals.{then-are_few, else-are_few, then-turn-spacing-eq0, else-turn-spacing-eq0}

pub loop-i-init : goal.loop-i-init
loop-i-init g c = none_printed _ _ _

pub loop-i-preserved : goal.loop-i-preserved
loop-i-preserved g c =
    let each : Bool → ℕ = λ b. cond b 10 20 in
    let spacing : c.if-are_few.spacing ≡ each (are_few c.args.window) =
    elim c.if-are_few.branch [
      | then-are_few w ↦ w.spacing-is ∙ ap each (sym w.if-are_few.true ∙ c.are_few.ensures)
      | else-are_few w ↦ w.spacing-is ∙ ap each (sym w.if-are_few.false ∙ c.are_few.ensures)
    ] in
    let turn = c.from-from.result + c.loop-i.i in
    let line : Prints g.W.Write.contents c.loop-i.text c.if-turn-spacing-eq0.text (tick_text c.args.window c.args.rows turn) =
    elim c.if-turn-spacing-eq0.branch [
      | then-turn-spacing-eq0 w ↦ rw (w.text-is, eq-eqb (turn % each (are_few c.args.window)) 0 (rw spacing at w.if-turn-spacing-eq0.true))
          ((rw (w.place-x.ensures.place, w.from-then-turn-spacing-eq0.ensures) at w.print_rectangle_tag.ensures) ▹ w.print.ensures
          ▹ ((rw (w.place-x.ensures.place, w.lane_top.ensures) at w.print_text_tag.ensures) ▹ w.print_short_decimal.ensures ▹ w.print-then-turn-spacing-eq0.ensures))
      | else-turn-spacing-eq0 w ↦ rw (w.text-is, ne_eqb (turn % each (are_few c.args.window)) 0 (λ e. w.if-turn-spacing-eq0.false (ap (λ (k : ℕ). turn % k) spacing ∙ e))) (prints_nothing _ _)
    ] in
    one_printed _ _ _ _ _ c.loop-i.i _ c.loop-i.invariant line (ap (λ (from : ℕ). tick_text c.args.window c.args.rows (from + c.loop-i.i)) c.from-from.ensures)
