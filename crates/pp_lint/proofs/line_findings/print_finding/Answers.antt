use Rattle.pp_text.proofs.PrintingLemmas.{◌▹◌}
use Rattle.pp_lint.proofs.line_findings.print_finding.Goals as goal

pub returns : goal.returns
returns g c = c.print_place.ensures ▹ c.print_fault_words.ensures ▹ c.print.ensures
