use Rattle.std.proofs.Common.{ℕ, arith}
use Rattle.pp_numbers.specs.ChannelNo.{channel_number}
use Rattle.pp_draw.specs.DrawingText.{is_used}
use Rattle.pp_draw.proofs.RowLemmas.{none_below, one_at_most, one_more}
use Rattle.pp_draw.proofs.drawing.used_among.Goals as goal

pub loop-place-init : goal.loop-place-init
loop-place-init g c = record { count = none_below (λ (p : ℕ). is_used c.args.machine.now (channel_number p)); most = omega arith }

pub loop-place-preserved : goal.loop-place-preserved
loop-place-preserved g c = grind (arith, one_more, one_at_most)
