use Rattle.std.proofs.Common.{ap, arith, length, sym, subst, ◌∙◌}
use Rattle.std.specs.List.{flat_map}
use Rattle.pp_lint.specs.LintText.{finding_line, is_something_found}
use Rattle.pp_lint.proofs.CommentLemmas.{none_found, prints_none}
use Rattle.pp_instructions.proofs.FieldLemmas.{few_fields}
use Rattle.pp_lint.proofs.WarningLemmas.{warned_central, warned_name, warned_other, warned_start, warned_word}
use Rattle.pp_text.specs.TextWriter.{Prints}
use Rattle.pp_lint.proofs.warnings.print_warnings.Goals as goal

pub row_of-row-requires-clause-fields : goal.row_of-row-requires-clause-fields
row_of-row-requires-clause-fields g c = omega (arith, ap length c.of.ensures, few_fields c.args.line.now)

pub print_start_warnings-requires-clause-row : goal.print_start_warnings-requires-clause-row
print_start_warnings-requires-clause-row g c = c.row_of-row.ensures.room (rw c.of.ensures c.requires.clean.none)

pub print_twice-requires-clause-row : goal.print_twice-requires-clause-row
print_twice-requires-clause-row g c = c.row_of-row.ensures.room (rw c.of.ensures c.requires.clean.none)

pub print_twice-requires-in-Central-clause-row : goal.print_twice-requires-in-Central-clause-row
print_twice-requires-in-Central-clause-row g c = c.row_of-row.ensures.room (rw c.of.ensures c.requires.clean.none)

pub returns-in-Name-clause-prints : goal.returns-in-Name-clause-prints
returns-in-Name-clause-prints g c = λ k notes shows number.
    subst (λ found. Prints g.W.Write.contents c.args.text.now c.print_no_start.new.text (flat_map finding_line found)) (sym (warned_name k c.args.line.now notes _ _ c.row_of-row.result c.in-Name.n (rw c.of.ensures at (c.row_of-row.ensures.value (rw c.of.ensures c.requires.clean.none))) c.in-Name.is))
    (c.print_no_start.ensures.prints k notes shows number)

pub returns-in-Name-clause-found : goal.returns-in-Name-clause-found
returns-in-Name-clause-found g c = λ k notes shows number.
    c.print_no_start.ensures.found k notes shows number ∙ ap is_something_found (sym (warned_name k c.args.line.now notes _ _ c.row_of-row.result c.in-Name.n (rw c.of.ensures at (c.row_of-row.ensures.value (rw c.of.ensures c.requires.clean.none))) c.in-Name.is))

pub returns-in-Start-clause-prints : goal.returns-in-Start-clause-prints
returns-in-Start-clause-prints g c = λ k notes shows number.
    subst (λ found. Prints g.W.Write.contents c.args.text.now c.print_start_warnings.new.text (flat_map finding_line found)) (sym (warned_start k c.args.line.now notes _ _ c.row_of-row.result c.in-Start.n _ (rw c.of.ensures at (c.row_of-row.ensures.value (rw c.of.ensures c.requires.clean.none))) c.in-Start.is (rw c.of.ensures at (c.row_of-row.ensures.start c.in-Start.n (rw c.of.ensures c.requires.clean.none) c.in-Start.is))))
    (c.print_start_warnings.ensures.prints k notes shows number)

pub returns-in-Start-clause-found : goal.returns-in-Start-clause-found
returns-in-Start-clause-found g c = λ k notes shows number.
    c.print_start_warnings.ensures.found k notes shows number ∙ ap is_something_found (sym (warned_start k c.args.line.now notes _ _ c.row_of-row.result c.in-Start.n _ (rw c.of.ensures at (c.row_of-row.ensures.value (rw c.of.ensures c.requires.clean.none))) c.in-Start.is (rw c.of.ensures at (c.row_of-row.ensures.start c.in-Start.n (rw c.of.ensures c.requires.clean.none) c.in-Start.is))))

pub returns-in-Word-clause-prints : goal.returns-in-Word-clause-prints
returns-in-Word-clause-prints g c = λ k notes shows number.
    subst (λ found. Prints g.W.Write.contents c.args.text.now c.print_twice.new.text (flat_map finding_line found)) (sym (warned_word k c.args.line.now notes _ _ c.row_of-row.result c.in-Word.field-0 (rw c.of.ensures at (c.row_of-row.ensures.value (rw c.of.ensures c.requires.clean.none))) c.in-Word.is))
    (c.print_twice.ensures.prints k notes shows number)

pub returns-in-Word-clause-found : goal.returns-in-Word-clause-found
returns-in-Word-clause-found g c = λ k notes shows number.
    c.print_twice.ensures.found k notes shows number ∙ ap is_something_found (sym (warned_word k c.args.line.now notes _ _ c.row_of-row.result c.in-Word.field-0 (rw c.of.ensures at (c.row_of-row.ensures.value (rw c.of.ensures c.requires.clean.none))) c.in-Word.is))

pub returns-in-Central-clause-prints : goal.returns-in-Central-clause-prints
returns-in-Central-clause-prints g c = λ k notes shows number.
    subst (λ found. Prints g.W.Write.contents c.args.text.now c.print_twice-in-Central.new.text (flat_map finding_line found)) (sym (warned_central k c.args.line.now notes _ _ c.row_of-row.result (rw c.of.ensures at (c.row_of-row.ensures.value (rw c.of.ensures c.requires.clean.none))) c.in-Central.is))
    (c.print_twice-in-Central.ensures.prints k notes shows number)

pub returns-in-Central-clause-found : goal.returns-in-Central-clause-found
returns-in-Central-clause-found g c = λ k notes shows number.
    c.print_twice-in-Central.ensures.found k notes shows number ∙ ap is_something_found (sym (warned_central k c.args.line.now notes _ _ c.row_of-row.result (rw c.of.ensures at (c.row_of-row.ensures.value (rw c.of.ensures c.requires.clean.none))) c.in-Central.is))

pub returns-in_default-clause-prints : goal.returns-in_default-clause-prints
returns-in_default-clause-prints g c = λ k notes shows number. prints_none _ _ _ (warned_other k c.args.line.now notes _ _ c.row_of-row.result (rw c.of.ensures at (c.row_of-row.ensures.value (rw c.of.ensures c.requires.clean.none))) c.in_default.not-Name c.in_default.not-Start c.in_default.not-Word c.in_default.not-Central)

pub returns-in_default-clause-found : goal.returns-in_default-clause-found
returns-in_default-clause-found g c = λ k notes shows number. none_found _ (warned_other k c.args.line.now notes _ _ c.row_of-row.result (rw c.of.ensures at (c.row_of-row.ensures.value (rw c.of.ensures c.requires.clean.none))) c.in_default.not-Name c.in_default.not-Start c.in_default.not-Word c.in_default.not-Central)
