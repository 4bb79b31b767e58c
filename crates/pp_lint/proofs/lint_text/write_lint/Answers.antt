use Rattle.std.proofs.Common.{[], rules, sym, ◌∙◌}
use Rattle.std.proofs.lemmas.Result.{err_from_is_err_and}
use Rattle.pp_text.specs.TextWriter.{Prints}
use Rattle.pp_lint.specs.LintText.{lint_text}
use Rattle.pp_lint.proofs.FindingLemmas.{prints_something, prints_that_nothing}
use Rattle.pp_lint.proofs.lint_text.write_lint.Goals.{then-not-is_found, else-not-is_found}
use Rattle.pp_lint.proofs.lint_text.write_lint.Goals as goal

pub print_findings-is_found-requires : goal.print_findings-is_found-requires
print_findings-is_found-requires g c = record {
  firsts = λ short. rw (c.text_in.ensures.value short) at c.in_ok-whole.ensures.firsts;
  alone = λ short. rw (c.text_in.ensures.value short) at c.in_ok-whole.ensures.alone;
}

pub returns-clause-written : goal.returns-clause-written
returns-clause-written g c =
    let printed : Prints g.W.Write.contents c.new-text.result c.if-not-is_found.text (lint_text c.args.profile c.args.deck.now) = elim c.if-not-is_found.branch [
      | then-not-is_found w ↦ rw w.text-is (prints_that_nothing _ _ _ _ c.args.profile c.args.deck.now (sym c.print_findings-is_found.ensures.found ∙ w.if-not-is_found.true) c.print_findings-is_found.ensures.prints w.print.ensures)
      | else-not-is_found w ↦ rw w.text-is (prints_something _ _ _ c.args.profile c.args.deck.now (sym c.print_findings-is_found.ensures.found ∙ w.if-not-is_found.false) c.print_findings-is_found.ensures.prints)
    ] in
    let written = c.finish.ensures.written _ _ (printed.goes_on _ [] c.new-text.ensures.nothing) in
    search (rules, written)

pub returns-in_err-finish-clause-fault : goal.returns-in_err-finish-clause-fault
returns-in_err-finish-clause-fault g c =
    let printed : Prints g.W.Write.contents c.new-text.result c.if-not-is_found.text (lint_text c.args.profile c.args.deck.now) = elim c.if-not-is_found.branch [
      | then-not-is_found w ↦ rw w.text-is (prints_that_nothing _ _ _ _ c.args.profile c.args.deck.now (sym c.print_findings-is_found.ensures.found ∙ w.if-not-is_found.true) c.print_findings-is_found.ensures.prints w.print.ensures)
      | else-not-is_found w ↦ rw w.text-is (prints_something _ _ _ c.args.profile c.args.deck.now (sym c.print_findings-is_found.ensures.found ∙ w.if-not-is_found.false) c.print_findings-is_found.ensures.prints)
    ] in
    let written = c.finish.ensures.written _ _ (printed.goes_on _ [] c.new-text.ensures.nothing) in
    let p = err_from_is_err_and c.from_residual-in_err-finish.result c.from_residual-in_err-finish.ensures.1 in
    rw (p.1, p.2) (search (rules, written))
