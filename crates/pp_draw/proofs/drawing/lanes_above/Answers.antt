use Rattle.std.proofs.Common.{arith}
use Rattle.pp_draw.specs.DrawingText.{is_flagged}
use Rattle.pp_draw.proofs.RowLemmas.{none_below, one_at_most, one_more}
use Rattle.pp_draw.proofs.drawing.lanes_above.Goals as goal

pub loop-above-init : goal.loop-above-init
loop-above-init g c = record { count = omega (arith, c.used_among-lanes.ensures.count, none_below (is_flagged c.args.shown.now)); most = omega arith }

pub loop-above-preserved : goal.loop-above-preserved
loop-above-preserved g c = grind (arith, one_more, one_at_most)
