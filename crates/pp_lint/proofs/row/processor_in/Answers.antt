use Rattle.std.proofs.Common.{sym, ◌∙◌}
use Rattle.pp_lint.proofs.GivenLemmas.{named_bad, named_empty, named_long, named_one}
use Rattle.pp_lint.proofs.row.processor_in.Goals as goal

pub returns-in_err-field : goal.returns-in_err-field
returns-in_err-field c = c.from_residual.ensures ∙ (rw c.in_err-field.ensures.none (named_empty c.args.profile))

pub returns-in_err-n : goal.returns-in_err-n
returns-in_err-n c = c.from_residual-in_err-n.ensures ∙ (rw c.in_ok-field.ensures.taken (named_bad c.args.profile _ _ (sym c.in_err-n.ensures.exact)))

pub returns-in-Some : goal.returns-in-Some
returns-in-Some c = rw c.in_ok-field.ensures.taken (rw c.in-Some.ensures.taken (named_long c.args.profile _ _ _))

pub returns-in-None : goal.returns-in-None
returns-in-None c =
    rw c.in_ok-field.ensures.taken (rw c.in-None.ensures.none (named_one c.args.profile _ c.in_ok-n.n c.processor.result (sym c.in_ok-n.ensures.exact) c.processor.ensures.exists c.processor.ensures.value))
