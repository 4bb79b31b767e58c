use Rattle.pp_lint.proofs.FaultOfLineLemmas.{start_begins, start_read, number_read}
use Rattle.pp_lint.proofs.line_fault.start_fault.Goals as goal

pub returns-in-Err : goal.returns-in-Err
returns-in-Err c = c.in-Err.ensures.fault _ start_begins

pub returns-in-Ok : goal.returns-in-Ok
returns-in-Ok c =
    let read = c.in-Ok.ensures.ok in
    number_read _ _ _ read.0 _ c.start_a_fault.result read.1.0 (λ more. start_read read.0 more c.in-Ok.field-0 read.1.1) (c.start_a_fault.ensures c.in-Ok.field-0)
