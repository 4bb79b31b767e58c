use Rattle.pp_text.proofs.PrintingLemmas.{◌▹◌}
use Rattle.pp_sessions.specs.SessionsText.{counts_line}
use Rattle.pp_sessions.proofs.lines.CountsLinesLinesPpNo.print.Goals as goal

pub returns-clause-text : goal.returns-clause-text
unfolding counts_line
returns-clause-text g c =
    rw (← c.index.ensures.place) ((rw c.processor_name.ensures at c.print.ensures) ▹ c.print-2.ensures ▹ (rw c.from.ensures at c.print_short_decimal.ensures) ▹ c.print-3.ensures
    ▹ (rw c.from-2.ensures at c.print_short_decimal-2.ensures) ▹ c.print-4.ensures ▹ (rw c.from-3.ensures at c.print_short_decimal-3.ensures) ▹ c.print-5.ensures)
