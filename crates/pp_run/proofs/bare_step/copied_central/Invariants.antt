use Rattle.std.proofs.Common.{◌≡◌, length, take}
use Rattle.pp_run.proofs.bare_step.copied_central.Given as goal

abbrev pub invariant-loop-address : goal.invariant-loop-address
invariant-loop-address g l = record {
  same : take l.address l.copy ≡ take l.address l.central;
  as_long : length l.copy ≡ length l.central;
}
