use Rattle.std.proofs.Common.{◌≡◌, ◌+◌, refl, arith, ap, take, ◌∙◌}
use Rattle.std.specs.Prelude.{count_by}
use Rattle.std.proofs.lemmas.List.{take_all}
use Rattle.pp_check.specs.Verdict.{begins_session, opened_count, used_count}
use Rattle.pp_check.proofs.KeepsLemmas.{few_sessions}
use Rattle.pp_check.proofs.VerdictLemmas.{few_counted, is_told, was_open, told_count, open_count}
use Rattle.pp_check.proofs.judge.Judge.verdict.Goals as goal

pub overflow_add-sessions : goal.overflow_add-sessions
overflow_add-sessions c = grind (arith, few_sessions, few_counted, was_open)

pub returns : goal.returns
returns c = λ opened lines k.
    let all = k.kept.each_channel in
    let whole = take_all c.loop-tally.tally-index c.args.self.now.channels (omega (arith, all, c.loop-tally-test.false)) in
    let told : c.loop-tally.channels ≡ used_count lines =
    c.loop-tally.invariant.channels ∙ ap (count_by is_told) whole ∙ told_count opened lines c.args.self.now.channels _ _ k.kept in
    let opened_too : c.loop-tally.sessions ≡ count_by begins_session lines + opened_count opened lines =
    c.loop-tally.invariant.sessions ∙ ap (λ n. n + count_by was_open (take c.loop-tally.tally-index c.args.self.now.channels)) k.kept.sessions ∙ ap (λ n. count_by begins_session lines + n) (ap (count_by was_open) whole ∙ open_count opened lines c.args.self.now.channels _ _ k.kept) in
    rw (k.kept.events, told, opened_too) refl
