use Rattle.std.proofs.Common.{◌≡◌, ◌≤◌}
use Rattle.pp_draw.specs.DrawingText.{used_among}
use Rattle.pp_draw.proofs.drawing.used_among.Given as goal

abbrev pub invariant-loop-place : goal.invariant-loop-place
invariant-loop-place g l = record {
  count : l.used ≡ used_among l.place l.machine;
  most : l.used ≤ l.place;
}
