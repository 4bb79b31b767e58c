use Rattle.std.proofs.Common.{ap, sym, ◌∙◌}
use Rattle.pp_lint.specs.LintText.{is_something_found}
use Rattle.pp_lint.proofs.CommentLemmas.{none_found, prints_none}
use Rattle.pp_lint.proofs.FindingLemmas.{prints_finding}
use Rattle.pp_lint.proofs.WarningLemmas.{not_startless, startless}
use Rattle.pp_lint.proofs.warnings.print_no_start.Goals as goal

pub returns-then-not-names_without_start-clause-prints : goal.returns-then-not-names_without_start-clause-prints
returns-then-not-names_without_start-clause-prints g c = λ k notes shows number.
    prints_none _ _ _ (not_startless k c.args.line.now notes c.args.n (sym c.if-not-names_without_start.true ∙ c.names_without_start.ensures k notes shows number))

pub returns-then-not-names_without_start-clause-found : goal.returns-then-not-names_without_start-clause-found
returns-then-not-names_without_start-clause-found g c = λ k notes shows number.
    none_found _ (not_startless k c.args.line.now notes c.args.n (sym c.if-not-names_without_start.true ∙ c.names_without_start.ensures k notes shows number))

pub returns-clause-prints : goal.returns-clause-prints
returns-clause-prints g c = λ k notes shows number.
    prints_finding _ _ _ _ _ (startless k c.args.line.now notes c.args.n (sym c.if-not-names_without_start.false ∙ c.names_without_start.ensures k notes shows number)) (rw number at c.print_startless.ensures)

pub returns-clause-found : goal.returns-clause-found
returns-clause-found g c = λ k notes shows number.
    sym (ap is_something_found (startless k c.args.line.now notes c.args.n (sym c.if-not-names_without_start.false ∙ c.names_without_start.ensures k notes shows number)))
