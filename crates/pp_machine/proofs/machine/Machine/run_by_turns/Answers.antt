use Rattle.std.proofs.Common.{◌*◌, subst, ◌∙◌, arith}
use Rattle.pp_numbers.specs.Profile.{processors_in}
use Rattle.pp_machine.specs.Rounds.{IsCut}
use Rattle.pp_machine.proofs.RoundLemmas.{counted_rounds, turns_at_most, round_later, rounds_after, cut_after}
use Rattle.pp_machine.proofs.machine.Machine.run_by_turns.Goals as goal

pub returns-in-Err-clause-cut : goal.returns-in-Err-clause-cut
returns-in-Err-clause-cut g c =
    let counted = counted_rounds c.args.self.now.profile c.from.result c.from-in-Err.result c.loop-done.done c.round-round.result c.from.ensures c.from-in-Err.ensures c.round-round.ensures in
    let round = round_later c.loop-done.done c.round-round.result c.args.self.now c.loop-done.self c.loop-done.invariant.ran c.round-round.ensures in
    let cut : IsCut (c.min-further.result * processors_in c.loop-done.self.profile) c.in-Err.before c.loop-done.self c.run_passing.new.self = subst (λ k. IsCut (c.min-further.result * k) c.in-Err.before c.loop-done.self c.run_passing.new.self) round c.in-Err.ensures.cut in
    cut_after c.loop-done.done c.min-further.result c.args.rounds c.in-Err.before (c.from.result * c.from-in-Err.result) c.args.self.now c.loop-done.self c.run_passing.new.self c.loop-done.invariant.ran counted cut (omega arith)

pub loop-done-preserved : goal.loop-done-preserved
loop-done-preserved g c = grind (arith, round_later, rounds_after)

pub run_passing-requires-clause-round : goal.run_passing-requires-clause-round
run_passing-requires-clause-round g c = grind (arith, round_later)

pub run_passing-requires-clause-whole : goal.run_passing-requires-clause-whole
run_passing-requires-clause-whole g c = grind (arith, round_later)

pub overflow_mul-result : goal.overflow_mul-result
overflow_mul-result g c = omega (arith, c.from.ensures, turns_at_most c.args.self.now.profile c.from.result c.from-in-Err.result (c.from-in-Err.ensures ∙ c.round-round.ensures))

pub overflow_add-result : goal.overflow_add-result
overflow_add-result g c = grind (arith, turns_at_most)
