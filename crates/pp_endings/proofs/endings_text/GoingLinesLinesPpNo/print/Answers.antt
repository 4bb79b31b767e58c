use Rattle.std.proofs.Common.{append_assoc}
use Rattle.pp_text.specs.PrintedText.{processor_line}
use Rattle.pp_text.proofs.PrintingLemmas.{◌▹◌, prints_on}
use Rattle.pp_endings.proofs.endings_text.GoingLinesLinesPpNo.print.Goals as goal

pub returns-clause-text : goal.returns-clause-text
unfolding processor_line
returns-clause-text g c =
    prints_on _ _ _ _ _ _ _ (c.print.ensures ▹ c.print_standing.ensures ▹ c.print_going.ensures) c.print-2.ensures
    (rw (append_assoc c.processor_heading.result, c.processor_heading.ensures.text, c.pp.ensures))
