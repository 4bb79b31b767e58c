use Rattle.std.proofs.Common.{◌+◌, ap, subst, sym, ◌∙◌}
use Rattle.std.specs.List.{flat_map}
use Rattle.std.proofs.lemmas.List.{take_rest}
use Rattle.pp_text.specs.TextWriter.{Prints}
use Rattle.pp_lint.specs.CommentFindings.{comment_findings}
use Rattle.pp_lint.specs.LineFault.{said_after}
use Rattle.pp_lint.specs.LintText.{finding_line, is_something_found}
use Rattle.pp_lint.proofs.CommentLemmas.{none_found, prints_none}
use Rattle.pp_lint.proofs.WordsLemmas.{blank_said, by_words, no_comment_said, no_words_said}
use Rattle.pp_lint.proofs.comment_findings.print_comment_findings.Goals as goal

pub returns-in_default-clause-prints : goal.returns-in_default-clause-prints
returns-in_default-clause-prints g c = λ before k none number.
    prints_none _ _ _ (ap (λ fields. comment_findings k c.args.line.now (said_after before fields)) (sym c.of-fields.ensures ∙ c.in_default.ensures.none) ∙ blank_said k before c.args.line.now)

pub returns-in_default-clause-found : goal.returns-in_default-clause-found
returns-in_default-clause-found g c = λ before k none.
    none_found _ (ap (λ fields. comment_findings k c.args.line.now (said_after before fields)) (sym c.of-fields.ensures ∙ c.in_default.ensures.none) ∙ blank_said k before c.args.line.now)

pub returns-then-not-begins_with_digit-clause-prints : goal.returns-then-not-begins_with_digit-clause-prints
returns-then-not-begins_with_digit-clause-prints g c = λ before k none number.
    prints_none _ _ _ (ap (λ fields. comment_findings k c.args.line.now (said_after before fields)) (sym c.of-fields.ensures ∙ c.in-Some.ensures.taken)
    ∙ no_words_said k before c.args.line.now c.in-Some.first.now c.next_field.new.self (sym c.begins_with_digit.ensures ∙ c.if-not-begins_with_digit.true))

pub returns-then-not-begins_with_digit-clause-found : goal.returns-then-not-begins_with_digit-clause-found
returns-then-not-begins_with_digit-clause-found g c = λ before k none.
    none_found _ (ap (λ fields. comment_findings k c.args.line.now (said_after before fields)) (sym c.of-fields.ensures ∙ c.in-Some.ensures.taken)
    ∙ no_words_said k before c.args.line.now c.in-Some.first.now c.next_field.new.self (sym c.begins_with_digit.ensures ∙ c.if-not-begins_with_digit.true))

pub returns-in_default-comment_place-clause-prints : goal.returns-in_default-comment_place-clause-prints
returns-in_default-comment_place-clause-prints g c = λ before k none number. prints_none _ _ _ (no_comment_said k c.args.line.now _ (sym c.in_default-comment_place.ensures.value))

pub returns-in_default-comment_place-clause-found : goal.returns-in_default-comment_place-clause-found
returns-in_default-comment_place-clause-found g c = λ before k none. none_found _ (no_comment_said k c.args.line.now _ (sym c.in_default-comment_place.ensures.value))

pub returns-clause-prints : goal.returns-clause-prints
returns-clause-prints g c = λ before k none number.
    let is = by_words k before c.args.line.now _ c.in-Some.first.now c.next_field.new.self c.in-Some-comment_place.star c.of-instructions.result none.none (sym c.of-fields.ensures ∙ c.in-Some.ensures.taken) (sym c.begins_with_digit.ensures ∙ c.if-not-begins_with_digit.false)
    c.in-Some-comment_place.ensures.value (take_rest c.args.line.now (c.in-Some-comment_place.star + 1)) (rw c.word_of.ensures at c.of-instructions.ensures) in
    subst (λ found. Prints g.W.Write.contents c.args.text.now c.print_claims_findings.new.text (flat_map finding_line found)) is (c.print_claims_findings.ensures.prints k number)

pub returns-clause-found : goal.returns-clause-found
returns-clause-found g c = λ before k none.
    let is = by_words k before c.args.line.now _ c.in-Some.first.now c.next_field.new.self c.in-Some-comment_place.star c.of-instructions.result none.none (sym c.of-fields.ensures ∙ c.in-Some.ensures.taken) (sym c.begins_with_digit.ensures ∙ c.if-not-begins_with_digit.false)
    c.in-Some-comment_place.ensures.value (take_rest c.args.line.now (c.in-Some-comment_place.star + 1)) (rw c.word_of.ensures at c.of-instructions.ensures) in
    c.print_claims_findings.ensures.found k ∙ ap is_something_found is
