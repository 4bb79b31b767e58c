use Rattle.pp_text.proofs.PrintingLemmas.{◌▹◌}
use Rattle.pp_test.proofs.verdict.print_failure.Goals as goal

pub returns : goal.returns
returns g c = c.print_short_decimal.ensures ▹ c.print.ensures ▹ c.print_bytes.ensures ▹ c.print-2.ensures ▹ c.print_near_heading.ensures ▹ c.print_bytes-2.ensures ▹ c.print-3.ensures
