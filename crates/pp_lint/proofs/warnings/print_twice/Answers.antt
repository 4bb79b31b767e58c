use Rattle.std.proofs.Common.{ap, sym}
use Rattle.pp_lint.specs.LintText.{is_something_found}
use Rattle.pp_lint.proofs.CommentLemmas.{none_found, prints_none}
use Rattle.pp_lint.proofs.FindingLemmas.{prints_finding}
use Rattle.pp_lint.proofs.WarningLemmas.{not_twice, twice}
use Rattle.pp_lint.proofs.warnings.print_twice.Goals as goal

pub returns-in_default-clause-prints : goal.returns-in_default-clause-prints
returns-in_default-clause-prints g c = λ k notes shows number.
    prints_none _ _ _ (not_twice k c.args.line.now notes c.args.row.now c.requires.set (c.in_default.ensures.value k notes shows number))

pub returns-in_default-clause-found : goal.returns-in_default-clause-found
returns-in_default-clause-found g c = λ k notes shows number.
    none_found _ (not_twice k c.args.line.now notes c.args.row.now c.requires.set (c.in_default.ensures.value k notes shows number))

pub returns-clause-prints : goal.returns-clause-prints
returns-clause-prints g c = λ k notes shows number.
    prints_finding _ _ _ _ _ (twice k c.args.line.now notes c.args.row.now c.in-Some.i c.line_of-first.result c.requires.set (c.in-Some.ensures.value k notes shows number) (c.line_of-first.ensures notes shows))
    (rw (c.column_of.ensures.value, c.of.ensures, c.first_field.ensures.value, number) at c.print_again.ensures)

pub returns-clause-found : goal.returns-clause-found
returns-clause-found g c = λ k notes shows number.
    sym (ap is_something_found (twice k c.args.line.now notes c.args.row.now c.in-Some.i c.line_of-first.result c.requires.set (c.in-Some.ensures.value k notes shows number) (c.line_of-first.ensures notes shows)))
