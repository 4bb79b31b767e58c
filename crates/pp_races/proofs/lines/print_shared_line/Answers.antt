use Rattle.pp_text.proofs.PrintingLemmas.{◌▹◌}
use Rattle.pp_races.proofs.lines.print_shared_line.Goals as goal

pub returns : goal.returns
returns g c =
    c.print.ensures ▹ (rw c.octal6.ensures at c.print-2.ensures) ▹ c.print-3.ensures ▹ c.print_processors.ensures ▹ c.print-4.ensures ▹ c.print_processors-2.ensures
    ▹ c.print-5.ensures
