use Rattle.std.proofs.Common.{◌++◌, append_assoc, codes, sym}
use Rattle.pp_word.specs.Numeral.{octal}
use Rattle.pp_text.proofs.PrintingLemmas.{prints_on}
use Rattle.pp_text.specs.PrintedText.{event_text, line_end}
use Rattle.pp_test.specs.RunLines.{deed_line}
use Rattle.pp_test.proofs.machine_lines.print_deed.Goals as goal

pub returns : goal.returns
unfolding deed_line
returns g c = let heading = codes "PP" ++ octal 2 c.args.entry.now.pp ++ codes " CH" ++ octal 2 c.args.entry.now.channel ++ codes " " in
    prints_on _ _ _ _ heading _ _ (rw c.deed_heading.ensures at c.print.ensures) c.print_event_end.ensures.text (sym (append_assoc heading (event_text c.args.entry.now.event) line_end))
