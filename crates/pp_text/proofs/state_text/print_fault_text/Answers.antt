use Rattle.pp_text.proofs.PrintingLemmas.{◌▹◌}
use Rattle.pp_text.proofs.state_text.print_fault_text.Goals as goal

pub returns : goal.returns
returns g c = c.print.ensures ▹ c.print-2.ensures
