use Rattle.pp_lint.proofs.FirstLinesLemmas.{shows_nothing}
use Rattle.pp_lint.proofs.first_lines.FirstLines.none.Goals as goal

pub returns : goal.returns
returns g c = shows_nothing c.in_ok-zeros.field-0.items c.in_ok-zeros.ensures.zero
