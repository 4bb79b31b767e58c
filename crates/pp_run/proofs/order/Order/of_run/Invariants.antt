use Rattle.std.proofs.Common.{◌≡◌, ◌++◌, take}
use Rattle.pp_machine.specs.Run.{barrel}
use Rattle.pp_run.proofs.order.Order.of_run.Given as goal

abbrev pub invariant-loop-turn : goal.invariant-loop-turn
invariant-loop-turn g l = l.processors.items ≡ take l.count l.fn.first ++ barrel l.profile l.turn
