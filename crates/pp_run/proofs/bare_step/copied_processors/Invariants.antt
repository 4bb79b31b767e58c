use Rattle.std.proofs.Common.{◌≡◌, take}
use Rattle.pp_run.proofs.bare_step.copied_processors.Given as goal

abbrev pub invariant-loop-place : goal.invariant-loop-place
invariant-loop-place g l = l.processors.items ≡ take l.place l.machine.processors
