use Rattle.std.proofs.Common.{append_assoc}
use Rattle.pp_text.specs.PrintedText.{processor_line}
use Rattle.pp_text.proofs.PrintingLemmas.{◌▹◌, prints_on}
use Rattle.pp_report.proofs.report_line.print_worker_line.Goals as goal

pub returns-clause-text : goal.returns-clause-text
unfolding processor_line
returns-clause-text g c =
    prints_on _ _ _ _ _ _ _ (c.print.ensures ▹ c.print_end.ensures) c.print-2.ensures
    (rw c.processor_heading.ensures.text (simp append_assoc))
