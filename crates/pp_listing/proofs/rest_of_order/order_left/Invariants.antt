use Rattle.std.proofs.Common.{◌≡◌, ◌≤◌, ◌++◌, drop}
use Rattle.pp_machine.specs.Run.{barrel}
use Rattle.pp_listing.proofs.rest_of_order.order_left.Given as goal

abbrev pub invariant-loop-turn : goal.invariant-loop-turn
invariant-loop-turn g l = record {
  on : l.turns ≤ l.turn;
  left : l.left.items ≡ drop l.made l.first ++ drop l.turns (barrel l.profile l.turn);
}
