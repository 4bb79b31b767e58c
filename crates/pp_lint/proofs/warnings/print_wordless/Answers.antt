use Rattle.std.specs.Prelude.{codes}
use Rattle.pp_text.proofs.PrintingLemmas.{◌▹◌}
use Rattle.pp_lint.specs.Warnings.{wordless_text}
use Rattle.pp_lint.proofs.FindingLemmas.{prints_ended}
use Rattle.pp_lint.proofs.warnings.print_wordless.Goals as goal

pub returns : goal.returns
unfolding wordless_text
returns g c =
    prints_ended (codes ", where no word is") (rw (c.column_of.ensures.value, c.of.ensures) at c.print_place.ensures)
    (c.print.ensures ▹ (rw (c.octal4.ensures, c.get.ensures.value) at c.print-2.ensures)) c.print-3.ensures
