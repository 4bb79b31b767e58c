use Rattle.std.proofs.Common.{◌≡◌, length, take}
use Rattle.pp_run.proofs.bare_step.copied_states.Given as goal

abbrev pub invariant-loop-place : goal.invariant-loop-place
invariant-loop-place l = record {
  same : take l.place l.copy ≡ take l.place l.states;
  as_long : length l.copy ≡ length l.states;
}
