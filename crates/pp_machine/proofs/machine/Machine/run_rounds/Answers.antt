use Rattle.std.proofs.Common.{◌*◌, ◌+◌, ◌∙◌, arith}
use Rattle.pp_machine.proofs.RoundLemmas.{counted_rounds, turns_at_most, rounds_after, cut_after}
use Rattle.pp_machine.proofs.machine.Machine.run_rounds.Goals as goal

pub returns-in-Err-clause-cut : goal.returns-in-Err-clause-cut
returns-in-Err-clause-cut g c =
    let m = c.args.self.now in
    let done = c.loop-done.done + c.run_quiet_rounds-quiet.result in
    let ran = rounds_after c.loop-done.done c.run_quiet_rounds-quiet.result m c.loop-done.self c.run_quiet_rounds-quiet.new.self c.loop-done.invariant.ran c.run_quiet_rounds-quiet.ensures.ran in
    let counted = counted_rounds m.profile c.from.result c.from-in-Err.result done c.round-round.result c.from.ensures c.from-in-Err.ensures c.round-round.ensures in
    cut_after done c.min-further.result c.args.rounds c.in-Err.before (c.from.result * c.from-in-Err.result) m c.run_quiet_rounds-quiet.new.self c.run_by_turns.new.self ran counted c.in-Err.ensures.cut (omega arith)

pub loop-done-preserved-then-quiet-window : goal.loop-done-preserved-then-quiet-window
loop-done-preserved-then-quiet-window g c = grind (arith, rounds_after)

pub loop-done-preserved : goal.loop-done-preserved
loop-done-preserved g c = grind (arith, rounds_after)

pub overflow_mul-result : goal.overflow_mul-result
overflow_mul-result g c = omega (arith, c.from.ensures, turns_at_most c.args.self.now.profile c.from.result c.from-in-Err.result (c.from-in-Err.ensures ∙ c.round-round.ensures))

pub overflow_add-result : goal.overflow_add-result
overflow_add-result g c = grind (arith, turns_at_most)
