use Rattle.std.proofs.Common.{[], rules}
use Rattle.pp_test.proofs.verdict.write_verdict.Goals as goal

pub returns-in-Ok-clause-written : goal.returns-in-Ok-clause-written
returns-in-Ok-clause-written g c =
    let written = c.finish.ensures.written _ _ (c.print_verdict-held.ensures.prints.goes_on _ [] c.new-text.ensures.nothing) in
    search (rules, rw c.in-Ok.is at written)

pub returns-in-Err-clause-fault : goal.returns-in-Err-clause-fault
returns-in-Err-clause-fault g c =
    let written = c.finish.ensures.written _ _ (c.print_verdict-held.ensures.prints.goes_on _ [] c.new-text.ensures.nothing) in
    search (rules, rw c.in-Err.is at written)
