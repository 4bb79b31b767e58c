use Rattle.std.proofs.Common.{sym, ◌∙◌}
use Rattle.pp_lint.proofs.StraightLineLemmas.{behind_end, behind_here, behind_nowhere}
use Rattle.pp_lint.proofs.straight_line.behind.Goals.{then-not-is_reached-via-then-not-is_reached, then-not-is_reached-via-else-not-is_reached+then-not-goes_on}
use Rattle.pp_lint.proofs.straight_line.behind.Goals as goal

pub returns-then-not-is_reached : goal.returns-then-not-is_reached
returns-then-not-is_reached g c = λ notes shows. elim c.then-not-is_reached.branch [
  | then-not-is_reached-via-then-not-is_reached w ↦ behind_nowhere c.args.profile notes c.args.n c.args.reached.now c.args.i.now (sym (c.is_reached.ensures notes shows) ∙ w.if-not-is_reached.true)
  | then-not-is_reached-via-else-not-is_reached+then-not-goes_on w ↦ behind_end c.args.profile notes c.args.n c.args.reached.now c.args.i.now (sym w.goes_on.ensures ∙ w.if-not-goes_on.true)
]

pub returns : goal.returns
returns g c = λ notes shows.
    behind_here c.args.profile notes c.args.n c.args.reached.now c.args.i.now c.place_behind.result (sym (c.is_reached.ensures notes shows) ∙ c.if-not-is_reached.false) (sym c.goes_on.ensures ∙ c.if-not-goes_on.false) c.place_behind.ensures
