use Rattle.pp_text.proofs.PrintingLemmas.{◌▹◌}
use Rattle.pp_state.proofs.memory_text.OctalWordsLinesU32.print.Goals as goal

pub returns-clause-text : goal.returns-clause-text
returns-clause-text g c = c.print.ensures ▹ (rw c.word_at.ensures at c.print_octal.ensures)
