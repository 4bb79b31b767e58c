use Rattle.pp_text.proofs.PrintingLemmas.{◌▹◌}
use Rattle.pp_lint.proofs.comment_findings.print_against.Goals as goal

pub returns-in-Some : goal.returns-in-Some
returns-in-Some g c = rw c.in-Some.is (c.print_claim.ensures ▹ c.print.ensures ▹ c.print-in-Some.ensures)

pub returns-in-None : goal.returns-in-None
returns-in-None g c = rw c.in-None.is (c.print_claim.ensures ▹ c.print-in-None.ensures)
