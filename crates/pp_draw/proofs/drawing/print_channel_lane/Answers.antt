use Rattle.pp_word.specs.Numeral.{octal}
use Rattle.std.proofs.lemmas.Bool.{eq-eqb, ne_eqb}
use Rattle.std.proofs.Common.{◌≡◌, ◌++◌, Some, codes, refl, sym, true, ◌∙◌, arith}
use Rattle.pp_text.proofs.PrintingLemmas.{◌▹◌}
use Rattle.pp_draw.specs.Condition.{channel_phases, phase_on}
use Rattle.pp_draw.specs.DrawingText.{channel_lane, is_used, lane_text}
use Rattle.pp_draw.proofs.LaneLemmas.{comes_first, comes_to_end, next_left, takes_if}
use Rattle.pp_draw.proofs.drawing.print_channel_lane.Goals.{else-get, else-opened, then-get, then-opened}
use Rattle.pp_draw.proofs.drawing.print_channel_lane.Goals as goal

pub loop-entry-init : goal.loop-entry-init
loop-entry-init g c =
    let begins = comes_first _ _ _ c.args.window (codes "CH" ++ octal 2 c.args.c) _ _ c.begin-lane.result (channel_phases c.args.c c.args.machine.now) in
    let lane = c.begin-lane.ensures.lane in
    let name = c.channel_name.ensures in
    let text = rw (c.channel_name.ensures, c.used_among-row.ensures.count, c.index.ensures.place) at c.begin-lane.ensures.text in
    elim c.if-opened.branch [
      | then-opened w ↦ rw (w.text-is, w.lane-is) (takes_if _ _ _ _ _ _ _ (Some _) _ w.take.ensures (begins _ lane name (rw (← c.events-entry-items.ensures, ← c.opened.ensures, w.if-opened.true) refl) text))
      | else-opened w ↦ rw (w.text-is, w.lane-is) (begins _ lane name (rw (← c.events-entry-items.ensures, ← c.opened.ensures, w.if-opened.false) refl) text)
    ]

pub loop-entry-preserved : goal.loop-entry-preserved
loop-entry-preserved g c =
    let left = next_left (phase_on c.args.c) c.events-entry-items.result.now c.loop-entry.entry-index c.entry-item.result (omega arith) c.entry-item.is in
    let is = λ (same : c.get.result ≡ c.get-in-loop-entry.result). eq-eqb c.entry-item.result.channel c.args.c (sym c.get.ensures.value ∙ same ∙ c.get-in-loop-entry.ensures.value) in
    let is_not = λ (other : c.get.result ≡ c.get-in-loop-entry.result → ⊥). ne_eqb c.entry-item.result.channel c.args.c (λ e. other (c.get.ensures.value ∙ e ∙ sym c.get-in-loop-entry.ensures.value)) in
    elim c.if-get.branch [
      | then-get w ↦ rw (w.text-is, w.lane-is) (takes_if _ _ _ _ _ _ _ (Some _) _ w.take-then-get.ensures (rw (left, is w.if-get.true) at c.loop-entry.invariant))
      | else-get w ↦ rw (w.text-is, w.lane-is) (rw (left, is_not w.if-get.false) at c.loop-entry.invariant)
    ]

pub returns : goal.returns
unfolding channel_lane lane_text
returns g c =
    let used : is_used c.args.machine.now c.args.c ≡ true = cc in
    rw used
    (comes_to_end _ _ _ _ _ _ (phase_on c.args.c) c.events-entry-items.result.now c.loop-entry.entry-index (omega arith) c.loop-entry.invariant c.finish.ensures
    ▹ (rw c.band_width.ensures.width at c.print_text_tag.ensures) ▹ (rw c.channel.ensures.value at c.print_channel_text.ensures.text) ▹ c.print.ensures)
