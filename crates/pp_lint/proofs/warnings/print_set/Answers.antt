use Rattle.pp_text.proofs.PrintingLemmas.{◌▹◌}
use Rattle.pp_lint.proofs.warnings.print_set.Goals as goal

pub returns-in-Central : goal.returns-in-Central
returns-in-Central g c = rw c.in-Central.is (c.print-in-Central.ensures ▹ c.print_short_octal.ensures)
