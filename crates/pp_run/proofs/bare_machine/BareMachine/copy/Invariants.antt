use Rattle.std.proofs.Common.{◌≡◌, take}
use Rattle.pp_run.proofs.bare_machine.BareMachine.copy.Given as goal

abbrev pub invariant-loop-place : goal.invariant-loop-place
invariant-loop-place g l = l.processors.items ≡ take l.place l.fn.self.processors.items
