use Rattle.pp_text.proofs.PrintingLemmas.{◌▹◌}
use Rattle.pp_lint.proofs.fault_words.print_fault_words.Goals as goal

pub returns : goal.returns
returns g c = rw c.words_and_field.ensures.words (c.print.ensures ▹ c.print_bytes.ensures)
