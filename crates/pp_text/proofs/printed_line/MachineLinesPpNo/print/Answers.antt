use Rattle.std.proofs.Common.{append_assoc}
use Rattle.pp_text.specs.PrintedText.{processor_line}
use Rattle.pp_text.proofs.PrintingLemmas.{◌▹◌, prints_on}
use Rattle.pp_text.proofs.printed_line.MachineLinesPpNo.print.Goals as goal

pub returns-clause-text : goal.returns-clause-text
unfolding processor_line
returns-clause-text g c =
    prints_on _ _ _ _ _ _ _ (c.print.ensures ▹ c.print_state_text.ensures) c.print-2.ensures
    (rw (c.processor_heading.ensures.text, c.state.ensures.value, c.pp-pp.ensures) (simp append_assoc))
