use Rattle.std.proofs.Common.{sym}
use Rattle.pp_lint.proofs.FaultOfLineLemmas.{bad_number}
use Rattle.pp_lint.proofs.line_fault.next_number.Goals as goal

pub returns-in-None-clause-fault : goal.returns-in-None-clause-fault
returns-in-None-clause-fault c = λ fault_of begins.
    bad_number c.args.most fault_of _ c.in-Some.field.now _ begins c.in-Some.ensures.taken (sym c.in-None.ensures.exact)
