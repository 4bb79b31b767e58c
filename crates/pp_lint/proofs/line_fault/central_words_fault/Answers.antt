use Rattle.pp_lint.proofs.FaultOfLineLemmas.{central_words_begin, central_words_read, number_read}
use Rattle.pp_lint.proofs.line_fault.central_words_fault.Goals as goal

pub returns-in-Err : goal.returns-in-Err
returns-in-Err c = c.in-Err.ensures.fault _ (central_words_begin c.args.size)

pub returns-in-Ok : goal.returns-in-Ok
returns-in-Ok c =
    let read = c.in-Ok.ensures.ok in
    number_read _ _ _ read.0 _ c.words_fault.result read.1.0 (λ more. central_words_read c.args.size read.0 more c.in-Ok.a read.1.1) (rw c.from.ensures at c.words_fault.ensures)
