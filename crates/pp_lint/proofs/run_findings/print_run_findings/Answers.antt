use Rattle.std.proofs.Common.{ap, arith, length, subst, ◌∙◌}
use Rattle.std.specs.List.{flat_map}
use Rattle.pp_text.specs.TextWriter.{Prints}
use Rattle.pp_lint.specs.LintText.{finding_line, is_something_found}
use Rattle.pp_lint.proofs.CommentLemmas.{none_found, prints_none}
use Rattle.pp_instructions.proofs.FieldLemmas.{few_fields}
use Rattle.pp_lint.proofs.RunLemmas.{no_word, run_nothing, run_words}
use Rattle.pp_lint.proofs.run_findings.print_run_findings.Goals as goal

pub row_of-row-requires-clause-fields : goal.row_of-row-requires-clause-fields
row_of-row-requires-clause-fields g c = omega (arith, ap length c.of.ensures, few_fields c.args.line.now)

pub returns-in_default-clause-prints : goal.returns-in_default-clause-prints
returns-in_default-clause-prints g c = λ k notes shows number.
    let value = rw c.of.ensures at (c.row_of-row.ensures.value (rw c.of.ensures c.requires.clean.none)) in
    prints_none _ _ _ (run_nothing c.args.before.now.profile notes c.args.deck.now.alone.items _ c.args.reached.now k c.args.line.now _ c.row_of-row.result value (no_word _ c.in_default.not-Word))

pub returns-in_default-clause-found : goal.returns-in_default-clause-found
returns-in_default-clause-found g c = λ k notes shows number.
    let value = rw c.of.ensures at (c.row_of-row.ensures.value (rw c.of.ensures c.requires.clean.none)) in
    none_found _ (run_nothing c.args.before.now.profile notes c.args.deck.now.alone.items _ c.args.reached.now k c.args.line.now _ c.row_of-row.result value (no_word _ c.in_default.not-Word))

pub returns-clause-prints : goal.returns-clause-prints
returns-clause-prints g c = λ k notes shows number.
    let value = rw c.of.ensures at (c.row_of-row.ensures.value (rw c.of.ensures c.requires.clean.none)) in
    subst (λ found. Prints g.W.Write.contents c.args.text.now c.print_instruction_findings.new.text (flat_map finding_line found)) (run_words c.args.before.now.profile notes c.args.deck.now.alone.items _ c.args.reached.now k c.args.line.now _ c.row_of-row.result c.in-Word.n _ _ value c.in-Word.is (c.first_place.ensures c.args.before.now c.requires.clean) (c.instructions_of.ensures c.args.before.now c.requires.clean))
    (c.print_instruction_findings.ensures.prints k notes shows number)

pub returns-clause-found : goal.returns-clause-found
returns-clause-found g c = λ k notes shows number.
    let value = rw c.of.ensures at (c.row_of-row.ensures.value (rw c.of.ensures c.requires.clean.none)) in
    c.print_instruction_findings.ensures.found k notes shows number
    ∙ ap is_something_found (run_words c.args.before.now.profile notes c.args.deck.now.alone.items _ c.args.reached.now k c.args.line.now _ c.row_of-row.result c.in-Word.n _ _ value c.in-Word.is (c.first_place.ensures c.args.before.now c.requires.clean) (c.instructions_of.ensures c.args.before.now c.requires.clean))
