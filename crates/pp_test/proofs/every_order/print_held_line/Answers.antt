use Rattle.pp_text.proofs.PrintingLemmas.{◌▹◌}
use Rattle.pp_test.proofs.every_order.print_held_line.Goals as goal

pub returns : goal.returns
returns g c =
    c.print.ensures ▹ c.print_short_decimal.ensures ▹ c.print-2.ensures ▹ c.print_short_decimal-2.ensures ▹ c.print_ending_word.ensures ▹ c.print_or_more.ensures ▹ c.print-3.ensures
