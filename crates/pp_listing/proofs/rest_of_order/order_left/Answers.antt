use Rattle.std.proofs.Common.{◌≡◌, ◌≤◌, ◌+◌, ◌-◌, ◌*◌, ◌/◌, ◌++◌, ℕ, drop, ap, ◌∙◌, arith}
use Rattle.std.proofs.lemmas.List.{take_rest}
use Rattle.pp_machine.specs.Run.{barrel}
use Rattle.pp_listing.specs.RestOfOrder.{turns_of_rounds}
use Rattle.pp_listing.proofs.RestOfOrderLemmas.{all_left, none_so_far, one_more, rounds_reach}
use Rattle.pp_listing.proofs.rest_of_order.order_left.Goals as goal

pub loop-turn-init : goal.loop-turn-init
loop-turn-init g c = grind (arith, take_rest, none_so_far)

pub loop-turn-preserved : goal.loop-turn-preserved
loop-turn-preserved g c = grind (arith, one_more)

pub returns : goal.returns
returns g c =
    let p = c.args.profile in
    let turns = c.args.steps - c.min-made.result in
    let on = c.loop-turn.invariant.on in
    let reach : turns ≤ turns_of_rounds p turns = rounds_reach p turns in
    let end = ap (λ (t : ℕ). (t + (c.processors-round.result - 1)) / c.processors-round.result * c.processors-round.result) c.from.ensures ∙ ap (λ (r : ℕ). (turns + (r - 1)) / r * r) c.processors-round.ensures in
    let last : c.loop-turn.turn ≡ turns_of_rounds p turns = omega (arith, on, reach, c.loop-turn.auto.turn-end, c.loop-turn-test.false, end, c.from-turn.ensures) in
    c.loop-turn.invariant.left
    ∙ ap (λ (t : ℕ). drop c.min-made.result c.args.first.now ++ drop turns (barrel p t)) last
    ∙ all_left c.args.first.now p c.args.steps c.min-made.result turns c.min-made.ensures (omega arith)
