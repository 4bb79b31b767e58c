use Rattle.std.proofs.Common.{◌≡◌, [], ap, arith, rules}
use Rattle.pp_numbers.specs.ChannelNo.{channel_count}
use Rattle.pp_numbers.specs.PpNo.{processor_count}
use Rattle.pp_text.proofs.PrintingLemmas.{◌▹◌}
use Rattle.pp_draw.specs.DrawingText.{channel_lane, drawing, processor_lane}
use Rattle.pp_draw.proofs.RowLemmas.{none_printed, one_printed}
use Rattle.pp_draw.proofs.drawing.write_drawing.Goals as goal

pub loop-place-init : goal.loop-place-init
loop-place-init g c = none_printed _ _ _

pub loop-place-preserved : goal.loop-place-preserved
loop-place-preserved g c = one_printed _ _ _ _ _ c.loop-place.place _ c.loop-place.invariant c.print_channel_lane.ensures (ap (channel_lane c.args.window c.args.machine.now) c.at.ensures.number)

pub loop-place-2-init : goal.loop-place-2-init
loop-place-2-init g c = none_printed _ _ _

pub loop-place-2-preserved : goal.loop-place-2-preserved
loop-place-2-preserved g c = one_printed _ _ _ _ _ c.loop-place-2.place _ c.loop-place-2.invariant c.print_processor_lane.ensures (ap (processor_lane c.args.window c.args.shown.now c.args.machine.now c.args.steps.now.earlier c.args.steps.now.shown.items) c.at-in-loop-place-2.ensures.number)

pub returns : goal.returns
unfolding drawing
returns g c =
    let channels : c.loop-place.place ≡ channel_count = omega (arith, c.loop-place.auto.place-end, c.loop-place-test.false) in
    let processors : c.loop-place-2.place ≡ processor_count = omega (arith, c.loop-place-2.auto.place-end, c.loop-place-2-test.false) in
    let printed = (rw c.lanes_above-rows.ensures at c.print_head.ensures) ▹ c.print_style.ensures ▹ c.print_legend.ensures ▹ (rw c.lanes_above-rows.ensures at c.print_ticks.ensures) ▹ (rw channels at c.loop-place.invariant) ▹ (rw processors at c.loop-place-2.invariant) ▹ (rw c.lanes_above-rows.ensures at c.print_foot.ensures) in
    let written = c.finish.ensures.written _ _ (printed.goes_on _ [] c.new-text.ensures.nothing) in
    search (rules, written)
