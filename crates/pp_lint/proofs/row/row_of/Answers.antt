use Rattle.std.proofs.Common.{sym, ◌∙◌}
use Rattle.pp_lint.proofs.GivenLemmas.{blank_gives, central_gives, dead_gives, others_give, section_gives, start_gives, start_is_second, words_give}
use Rattle.pp_lint.proofs.row.row_of.Goals as goal

pub returns-in_default-clause-value : goal.returns-in_default-clause-value
returns-in_default-clause-value c = λ none. c.nothing.ensures ∙ blank_gives c.args.before.now _ c.in_default.ensures.none

pub returns-then-is-clause-value : goal.returns-then-is-clause-value
returns-then-is-clause-value c = λ none. c.central_row.ensures.value ∙ (central_gives c.args.before.now _ c.in-Some.first.now _ c.in-Some.ensures.taken (sym c.is.ensures ∙ c.if-is.true) none).0

pub returns-then-is-clause-room : goal.returns-then-is-clause-room
returns-then-is-clause-room c = λ none.
    rw c.central_row.ensures.value ((central_gives c.args.before.now _ c.in-Some.first.now _ c.in-Some.ensures.taken (sym c.is.ensures ∙ c.if-is.true) none).1 (rw c.central_row.ensures.value at c.central_row.ensures.small) c.requires.size)

pub returns-then-is-2-clause-value : goal.returns-then-is-2-clause-value
returns-then-is-2-clause-value c = λ none. c.name_row.ensures ∙ section_gives c.args.before.now _ c.in-Some.first.now _ c.in-Some.ensures.taken (sym c.is-2.ensures ∙ c.if-is-2.true) none

pub returns-then-is-3-clause-value : goal.returns-then-is-3-clause-value
returns-then-is-3-clause-value c = λ none. c.start_row.ensures ∙ start_gives c.args.before.now _ c.in-Some.first.now _ c.in-Some.ensures.taken (sym c.is-3.ensures ∙ c.if-is-3.true) none

pub returns-then-is-4-clause-value : goal.returns-then-is-4-clause-value
returns-then-is-4-clause-value c = λ none. c.one.ensures ∙ dead_gives c.args.before.now _ c.in-Some.first.now _ c.in-Some.ensures.taken (sym c.is-4.ensures ∙ c.if-is-4.true) none

pub returns-then-begins_with_digit-clause-value : goal.returns-then-begins_with_digit-clause-value
returns-then-begins_with_digit-clause-value c = λ none.
    c.words_row.ensures.value ∙ (words_give c.args.before.now _ c.in-Some.first.now _ c.in-Some.ensures.taken (sym c.begins_with_digit.ensures ∙ c.if-begins_with_digit.true) none).0

pub returns-then-begins_with_digit-clause-room : goal.returns-then-begins_with_digit-clause-room
returns-then-begins_with_digit-clause-room c = λ none.
    rw c.words_row.ensures.value ((words_give c.args.before.now _ c.in-Some.first.now _ c.in-Some.ensures.taken (sym c.begins_with_digit.ensures ∙ c.if-begins_with_digit.true) none).1
    (rw c.words_row.ensures.value at c.words_row.ensures.processor) (rw c.words_row.ensures.value at c.words_row.ensures.small))

pub returns-clause-value : goal.returns-clause-value
returns-clause-value c = λ none.
    c.nothing-2.ensures ∙ others_give c.args.before.now _ c.in-Some.first.now _ c.in-Some.ensures.taken (sym c.is.ensures ∙ c.if-is.false) (sym c.is-2.ensures ∙ c.if-is-2.false) (sym c.is-3.ensures ∙ c.if-is-3.false)
    (sym c.is-4.ensures ∙ c.if-is-4.false) (sym c.begins_with_digit.ensures ∙ c.if-begins_with_digit.false) none

pub returns-then-is-3-clause-start : goal.returns-then-is-3-clause-start
returns-then-is-3-clause-start c = λ n none of.
    start_is_second c.args.before.now _ c.in-Some.first.now _ c.in-Some.ensures.taken (sym c.is-3.ensures ∙ c.if-is-3.true) none
