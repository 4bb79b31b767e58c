use Rattle.pp_text.proofs.PrintingLemmas.{◌▹◌}
use Rattle.pp_lint.proofs.line_findings.print_place.Goals as goal

pub returns : goal.returns
returns g c = c.print_short_decimal.ensures ▹ c.print.ensures ▹ c.print_short_decimal-2.ensures ▹ c.print-2.ensures
