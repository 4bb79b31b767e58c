use Rattle.std.proofs.Common.{ap, sym, ◌∙◌}
use Rattle.pp_lint.specs.LintText.{is_something_found}
use Rattle.pp_lint.proofs.CommentLemmas.{none_found, prints_none}
use Rattle.pp_lint.proofs.FindingLemmas.{prints_finding}
use Rattle.pp_lint.proofs.WarningLemmas.{not_wordless, wordless}
use Rattle.pp_lint.proofs.warnings.print_no_word.Goals as goal

pub returns-then-not-is_wordless-clause-prints : goal.returns-then-not-is_wordless-clause-prints
returns-then-not-is_wordless-clause-prints g c = λ k notes shows number.
    prints_none _ _ _ (rw (← c.place_of_start-place.ensures) (not_wordless k c.args.line.now notes c.args.n _ (sym c.if-not-is_wordless.true ∙ c.is_wordless.ensures notes shows)))

pub returns-then-not-is_wordless-clause-found : goal.returns-then-not-is_wordless-clause-found
returns-then-not-is_wordless-clause-found g c = λ k notes shows number.
    none_found _ (rw (← c.place_of_start-place.ensures) (not_wordless k c.args.line.now notes c.args.n _ (sym c.if-not-is_wordless.true ∙ c.is_wordless.ensures notes shows)))

pub returns-clause-prints : goal.returns-clause-prints
returns-clause-prints g c = λ k notes shows number.
    prints_finding _ _ _ _ _ (rw (← c.place_of_start-place.ensures) (wordless k c.args.line.now notes c.args.n _ (sym c.if-not-is_wordless.false ∙ c.is_wordless.ensures notes shows))) (rw number at c.print_wordless.ensures)

pub returns-clause-found : goal.returns-clause-found
returns-clause-found g c = λ k notes shows number.
    rw (← c.place_of_start-place.ensures) (sym (ap is_something_found (wordless k c.args.line.now notes c.args.n _ (sym c.if-not-is_wordless.false ∙ c.is_wordless.ensures notes shows))))
