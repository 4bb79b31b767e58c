use Rattle.pp_text.proofs.PrintingLemmas.{◌▹◌}
use Rattle.pp_lint.proofs.lint_text.print_mark.Goals as goal

pub returns : goal.returns
returns g c = c.print_place.ensures ▹ c.print.ensures ▹ c.print-2.ensures
