use Rattle.std.proofs.Common.{codes}
use Rattle.pp_word.specs.Numeral.{octal}
use Rattle.pp_text.specs.PrintedText.{event_text, line_end}
use Rattle.pp_text.proofs.PrintingLemmas.{◌▹◌}
use Rattle.pp_races.proofs.TextLemmas.{prints_parts}
use Rattle.pp_races.proofs.lines.print_entry.Goals as goal

pub returns : goal.returns
returns g c =
    let entry = c.args.entry.now in
    let heading = prints_parts _ _ _ _ _ (codes " PP") (octal 2 entry.pp) c.print_decimal.ensures (c.print.ensures ▹ (rw c.processor_name.ensures at c.print-2.ensures)) in
    prints_parts _ _ _ _ _ (event_text entry.event) line_end (heading ▹ c.print-3.ensures) c.print_event_end.ensures.text
