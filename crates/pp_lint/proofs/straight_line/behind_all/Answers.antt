use Rattle.std.proofs.Common.{sym, ap, ◌∙◌}
use Rattle.pp_lint.specs.StraightLine.{behind_all}
use Rattle.pp_lint.proofs.StraightLineLemmas.{behind_none, behind_step}
use Rattle.pp_lint.proofs.straight_line.behind_all.Goals as goal

pub loop-i-preserved : goal.loop-i-preserved
loop-i-preserved g c = λ notes shows.
    behind_step c.args.profile notes c.args.n c.loop-i.reached c.behind-reached.result _ _ c.in-Some.i c.in-Some.ensures.taken (c.behind-reached.ensures notes shows) ∙ c.loop-i.invariant notes shows

pub returns : goal.returns
returns g c = λ notes shows.
    sym (ap (behind_all c.args.profile notes c.args.n c.loop-i.reached) c.in_default.ensures.none.0 ∙ behind_none c.args.profile notes c.args.n c.loop-i.reached) ∙ c.loop-i.invariant notes shows
