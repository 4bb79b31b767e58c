use Rattle.pp_text.proofs.PrintingLemmas.{◌▹◌}
use Rattle.pp_listing.proofs.deck_lines.print_size.Goals as goal

pub returns : goal.returns
returns g c = c.print.ensures ▹ (rw (c.from.ensures, c.size.ensures.value) at c.print_short_octal.ensures) ▹ c.print-2.ensures
