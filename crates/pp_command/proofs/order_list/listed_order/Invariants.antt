use Rattle.std.specs.Prelude.{option_map}
use Rattle.pp_command.specs.NumberList.{numbers_in}
use Rattle.pp_command.proofs.NumberListLemmas.{bytes_in}
use Rattle.pp_command.proofs.OrderListLemmas.{ListsSoFar}
use Rattle.pp_command.proofs.order_list.listed_order.Given as goal

abbrev pub invariant-loop-rest : goal.invariant-loop-rest
invariant-loop-rest g l = ListsSoFar l.profile l.text l.order.items (numbers_in (option_map (λ list. list.now) l.rest))

abbrev pub decreases-loop-rest : goal.decreases-loop-rest
decreases-loop-rest g l = bytes_in (option_map (λ list. list.now) l.rest)
