use Rattle.std.proofs.Common.{◌+◌, sym, ap, ◌∙◌, subst, arith}
use Rattle.pp_line.specs.declared.rule.LineView.{LineView}
use Rattle.pp_line.specs.LineLog.{LogState}
use Rattle.pp_line.specs.LineSteps.{IsLogOf}
use Rattle.pp_line.specs.LineView.{greater_of_each, joined_view, with_unrecorded_load}
use Rattle.pp_line.proofs.LineKeeping.{log_of_same, log_of_joined}
use Rattle.pp_line.proofs.SeenLemmas.{greater_left, greater_right}
use Rattle.pp_line.proofs.line.Line.join.Goals as goal

pub invariant_of-self-2 : goal.invariant_of-self-2
invariant_of-self-2 g c =
    let view = c.check_shares.ensures.view ∙ ap with_unrecorded_load c.join.ensures.view in
    let both = joined_view c.self.inside.words.seat.me.0 c.other.inside.words.seat.me.0 in (
      c.greater_of_each-self-inside.ensures ∙ ((λ j. greater_of_each (c.self.invariant.0 j) (c.other.invariant.0 j)) ∙ ap (λ (v : LineView). v.seen) (sym view)),
      (λ j. c.self.invariant.1 j + c.other.invariant.1 j) ∙ ap (λ (v : LineView). v.shares) (sym view),
      c.self.invariant.2 ∙ ap (λ (v : LineView). v.whole) (sym view),
      subst (λ (log : LogState). IsLogOf c.check_shares.new.self.seat.me.0 log.entries) (sym (c.in_default.ensures).ok)
          (log_of_same _ (log_of_joined c.self.invariant.3 c.other.invariant.3) (ap (λ (v : LineView). v.events) view) (ap (λ (v : LineView). v.found) view) (ap (λ (v : LineView). v.seen) view) (ap (λ (v : LineView). v.program_orders) view)),
    )

pub returns-clause-nothing_forgotten : goal.returns-clause-nothing_forgotten
returns-clause-nothing_forgotten g c = grind (arith, greater_left, greater_right)
