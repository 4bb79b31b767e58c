use Rattle.std.proofs.Common.{◌≡◌, ◌≤◌, ◌+◌}
use Rattle.pp_numbers.specs.ChannelNo.{channel_count}
use Rattle.pp_draw.specs.DrawingText.{lanes_above}
use Rattle.pp_draw.proofs.drawing.lanes_above.Given as goal

abbrev pub invariant-loop-above : goal.invariant-loop-above
invariant-loop-above g l = record {
  count : l.lanes ≡ lanes_above l.above l.shown l.machine;
  most : l.lanes ≤ channel_count + l.above;
}
