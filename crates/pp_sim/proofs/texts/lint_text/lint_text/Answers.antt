use Rattle.std.proofs.Common.{ℕ, List, Ok, Err, subst, sym, ◌∙◌}
use Rattle.pp_lint.specs.LintText.{lint_text}
use Rattle.pp_text.specs.Written.{IsReportWritten}
use Rattle.std.proofs.lemmas.Result.{err_from_is_err_and}
use Rattle.pp_sim.specs.declared.text_fault.TextFault.TheVariants.{Findings}
use Rattle.pp_sim.proofs.AnswerLemmas.{answered_lint, lint_fault}
use Rattle.pp_sim.proofs.texts.lint_text.lint_text.Goals as goal

pub returns-in-true : goal.returns-in-true
returns-in-true g c =
    let found = sym c.in_ok-write_lint.ensures.found ∙ c.in-true.is in
    answered_lint c.args.profile _ _ _ _ c.in_ok-front.front.items (Err Findings)
    (rw c.as_slice.ensures.value at found, rw c.as_slice.ensures.value at c.in_ok-write_lint.ensures.written)
    c.in_ok-front.ensures.read c.in_ok-front.ensures.bounded c.in_ok-front.ensures.end

pub returns : goal.returns
returns g c =
    let found = sym c.in_ok-write_lint.ensures.found ∙ c.in-false.is in
    answered_lint c.args.profile _ _ _ _ c.in_ok-front.front.items (Ok tt)
    (rw c.as_slice.ensures.value at found, rw c.as_slice.ensures.value at c.in_ok-write_lint.ensures.written)
    c.in_ok-front.ensures.read c.in_ok-front.ensures.bounded c.in_ok-front.ensures.end

pub returns-in_err-write_lint : goal.returns-in_err-write_lint
returns-in_err-write_lint g c =
    let p = err_from_is_err_and c.from_residual-in_err-write_lint.result c.from_residual-in_err-write_lint.ensures.1 in
    rw (p.1, p.2) (answered_lint c.args.profile _ _ _ _ c.in_ok-front.front.items (Err _)
    (lint_fault c.args.profile _ _ _ _ (subst (λ (bytes : List ℕ). IsReportWritten (lint_text c.args.profile bytes) (Err c.in_err-write_lint.field-0.0) (g.W.Write.contents c.args.writer.now) (g.W.Write.contents c.write_lint.new.writer)) c.as_slice.ensures.value c.in_err-write_lint.ensures.fault))
    c.in_ok-front.ensures.read c.in_ok-front.ensures.bounded c.in_ok-front.ensures.end)
