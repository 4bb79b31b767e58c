use Rattle.std.proofs.Common.{◌-◌, sym, ap, ◌∙◌}
use Rattle.pp_line.specs.declared.rule.LineView.{LineView}
use Rattle.pp_line.proofs.LineKeeping.{log_of_same}
use Rattle.pp_line.proofs.line.Line.split.Goals as goal

pub invariant_of-self-2 : goal.invariant_of-self-2
invariant_of-self-2 g c =
    let view = (c.in_ok-words.ensures).parent in (
      c.self.invariant.0 ∙ ap (λ (v : LineView). v.seen) (sym view),
      ap (λ n. n - 1) c.self.invariant.1 ∙ ap (λ (v : LineView). v.shares) (sym view),
      c.self.invariant.2 ∙ ap (λ (v : LineView). v.whole) (sym view),
      log_of_same _ c.self.invariant.3 (ap (λ (v : LineView). v.events) view) (ap (λ (v : LineView). v.found) view) (ap (λ (v : LineView). v.seen) view) (ap (λ (v : LineView). v.program_orders) view),
    )
