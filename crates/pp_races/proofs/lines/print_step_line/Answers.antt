use Rattle.pp_text.specs.PrintedText.{line_end}
use Rattle.pp_text.proofs.PrintingLemmas.{◌▹◌}
use Rattle.pp_races.specs.RacesText.{entry_text}
use Rattle.pp_races.proofs.TextLemmas.{prints_parts}
use Rattle.pp_races.proofs.lines.print_step_line.Goals as goal

pub returns : goal.returns
returns g c =
    prints_parts _ _ _ _ _ (entry_text c.args.entry.now) line_end (c.print_decimal.ensures ▹ c.print.ensures ▹ c.print_place.ensures ▹ c.print-2.ensures) c.print_entry.ensures
