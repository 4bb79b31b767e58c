use Rattle.std.proofs.Common.{◌≡◌, ◌+◌, ◌-◌, List, ℕ, length, take, sym, subst, arith}
use Rattle.std.proofs.lemmas.List.{length-take}
use Rattle.pp_machine.specs.Run.{IsCutAtEvent, barrel}
use Rattle.pp_machine.proofs.OrderLemmas.{cut_in_first, cut_in_second, made_of_both, made_of_first, made_of_second, order_parts}
use Rattle.pp_machine.proofs.RoundLemmas.{profile_after}
use Rattle.pp_machine.proofs.RunLemmas.{length-barrel}
use Rattle.pp_machine.proofs.machine.Machine.run_in_order.Goals as goal

pub returns-in-Err-clause-run : goal.returns-in-Err-clause-run
returns-in-Err-clause-run g c =
    let m = c.args.self.now in
    let parts = order_parts c.args.first.now m.profile c.args.steps c.min-count.result c.min-count.ensures in
    record {
      ran = tt;
      cut = grind (arith, made_of_first);
      headline = c.run_turns.ensures.run.headline;
    }

pub returns-in-Err-clause-cut_at_event : goal.returns-in-Err-clause-cut_at_event
returns-in-Err-clause-cut_at_event g c =
    let m = c.args.self.now in
    let parts = order_parts c.args.first.now m.profile c.args.steps c.min-count.result c.min-count.ensures in
    subst (λ (ns : List ℕ). IsCutAtEvent ns m c.in-Err.cut.done) (sym parts) (cut_in_first _ (barrel m.profile (c.args.steps - c.min-count.result)) _ m c.in-Err.ensures.cut_at_event)

pub returns-in-Ok-clause-run : goal.returns-in-Ok-clause-run
returns-in-Ok-clause-run g c =
    let m = c.args.self.now in
    let parts = order_parts c.args.first.now m.profile c.args.steps c.min-count.result c.min-count.ensures in
    let same = profile_after (take c.min-count.result c.args.first.now) m c.run_turns.new.self c.in_default.ensures.run.ran in
    record {
      ran = grind (arith, made_of_both);
      cut = tt;
      headline = c.run_barrel.ensures.run.headline;
    }

pub returns-in-Err-run_barrel-clause-run : goal.returns-in-Err-run_barrel-clause-run
returns-in-Err-run_barrel-clause-run g c =
    let m = c.args.self.now in
    let count = c.min-count.result in
    let parts = order_parts c.args.first.now m.profile c.args.steps count c.min-count.ensures in
    let same = profile_after (take c.min-count.result c.args.first.now) m c.run_turns.new.self c.in_default.ensures.run.ran in
    let long : count ≡ length (take count c.args.first.now) = omega (arith, length-take count c.args.first.now, c.min-count.ensures) in
    record {
      ran = tt;
      cut = grind (arith, made_of_second);
      headline = c.run_barrel.ensures.run.headline;
    }

pub returns-in-Err-run_barrel-clause-cut_at_event : goal.returns-in-Err-run_barrel-clause-cut_at_event
returns-in-Err-run_barrel-clause-cut_at_event g c =
    let m = c.args.self.now in
    let count = c.min-count.result in
    let parts = order_parts c.args.first.now m.profile c.args.steps count c.min-count.ensures in
    let same = profile_after (take c.min-count.result c.args.first.now) m c.run_turns.new.self c.in_default.ensures.run.ran in
    let long : count ≡ length (take count c.args.first.now) = omega (arith, length-take count c.args.first.now, c.min-count.ensures) in
    subst (λ (ns : List ℕ). IsCutAtEvent ns m (count + c.in-Err-run_barrel.cut.done)) (sym parts)
    (cut_in_second (take count c.args.first.now) (barrel m.profile (c.args.steps - count)) count c.in-Err-run_barrel.cut.done m c.run_turns.new.self long c.in_default.ensures.run.ran
    (subst (λ p. IsCutAtEvent (barrel p (c.args.steps - count)) c.run_turns.new.self c.in-Err-run_barrel.cut.done) same c.in-Err-run_barrel.ensures.cut_at_event))

pub overflow_add-result : goal.overflow_add-result
overflow_add-result g c = omega (arith, c.in-Err-run_barrel.ensures.cut_at_event.0, length-barrel c.run_turns.new.self.profile (c.args.steps - c.min-count.result))
