use Rattle.std.specs.Prelude.{codes}
use Rattle.pp_text.proofs.PrintingLemmas.{◌▹◌}
use Rattle.pp_lint.specs.Warnings.{startless_text}
use Rattle.pp_lint.proofs.FindingLemmas.{prints_ended}
use Rattle.pp_lint.proofs.warnings.print_startless.Goals as goal

pub returns : goal.returns
unfolding startless_text
returns g c =
    prints_ended (codes " has no START") (rw (c.column_of.ensures.value, c.of.ensures) at c.print_place.ensures)
    (c.print.ensures ▹ (rw (c.from.ensures, c.get.ensures.value) at c.print_short_octal.ensures)) c.print-2.ensures
