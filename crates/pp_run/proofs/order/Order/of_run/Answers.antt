use Rattle.std.proofs.Common.{◌≡◌, ◌-◌, ◌++◌, ℕ, length, take, ap, sym, ◌∙◌, arith}
use Rattle.pp_machine.specs.Run.{barrel, run_order}
use Rattle.pp_machine.proofs.OrderLemmas.{length-run_order, order_parts}
use Rattle.pp_run.proofs.order.Order.of_run.Goals as goal
use Rattle.pp_run.proofs.order.Order.of_run.Goals.{After-loop-turn}

all : (g : _) (c : After-loop-turn g) → c.loop-turn.processors.items ≡ run_order c.args.first.now c.args.profile c.args.steps
all g c =
    let last : c.loop-turn.turn ≡ c.args.steps - c.min-count.result = omega (arith, c.loop-turn.auto.turn-end, c.loop-turn-test.false) in
    c.loop-turn.invariant ∙ ap (λ (t : ℕ). take c.min-count.result c.args.first.now ++ barrel c.args.profile t) last
    ∙ sym (order_parts c.args.first.now c.args.profile c.args.steps c.min-count.result c.min-count.ensures)

pub invariant_of-result : goal.invariant_of-result
invariant_of-result g c =
    let d = (goal.at.invariant_of-result g c).After-loop-turn in
    omega (arith, ap length (all g d), length-run_order c.args.first.now c.args.profile c.args.steps, c.ranges.steps.fits)

pub returns : goal.returns
returns g c = all g (goal.at.returns g c).After-loop-turn
