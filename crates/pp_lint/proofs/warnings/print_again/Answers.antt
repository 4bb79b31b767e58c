use Rattle.std.specs.Prelude.{codes}
use Rattle.pp_text.proofs.PrintingLemmas.{◌▹◌}
use Rattle.pp_lint.specs.Warnings.{twice_text}
use Rattle.pp_lint.proofs.FindingLemmas.{prints_ended}
use Rattle.pp_lint.proofs.warnings.print_again.Goals as goal

pub returns : goal.returns
unfolding twice_text
returns g c = prints_ended (codes " too") c.print_place.ensures (c.print_set.ensures ▹ c.print.ensures ▹ (rw c.from.ensures at c.print_short_decimal.ensures)) c.print-2.ensures
