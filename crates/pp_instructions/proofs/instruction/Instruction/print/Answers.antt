use Rattle.pp_text.proofs.PrintingLemmas.{◌▹◌}
use Rattle.pp_instructions.proofs.instruction.Instruction.print.Goals as goal

pub returns-in-Some : goal.returns-in-Some
returns-in-Some g c =
    let first = rw (c.octal4.ensures, c.get.ensures.value) at c.print.ensures in
    let second = rw (c.octal4-in-Some.ensures, c.get-in-Some.ensures.value) at c.print-in-Some-2.ensures in
    rw c.in-Some.is (first ▹ c.print-in-Some.ensures ▹ second ▹ c.print-in-Some-3.ensures ▹ c.print_running.ensures)
