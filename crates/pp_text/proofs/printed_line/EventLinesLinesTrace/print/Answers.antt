use Rattle.std.proofs.Common.{refl}
use Rattle.pp_text.proofs.PrintingLemmas.{◌▹◌, prints_on}
use Rattle.pp_text.proofs.TextLemmas.{event_line_in_pieces}
use Rattle.pp_text.proofs.printed_line.EventLinesLinesTrace.print.Goals as goal

pub returns-clause-text : goal.returns-clause-text
returns-clause-text g c =
    prints_on _ _ _ _ _ _ _ (c.print_upper_digits-turn.ensures.text ▹ c.print.ensures) c.print_event_end.ensures.text
    (event_line_in_pieces _ _ _ c.args.entry.now refl (rw c.print_upper_digits-turn.ensures.rest at c.event_heading.ensures.text) refl)
