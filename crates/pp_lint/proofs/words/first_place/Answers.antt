use Rattle.std.proofs.Common.{sym, ◌∙◌}
use Rattle.pp_lint.proofs.WordsLemmas.{none_run, others_run, words_run}
use Rattle.pp_lint.proofs.words.first_place.Goals as goal

pub returns-in_default : goal.returns-in_default
returns-in_default c = λ before clean. let none = none_run before c.args.line.now (sym c.of.ensures ∙ c.in_default.ensures.none) in none.first

pub returns-then-not-begins_with_digit : goal.returns-then-not-begins_with_digit
returns-then-not-begins_with_digit c = λ before clean.
    let run = others_run before c.args.line.now c.in-Some.first.now c.next_field.new.self (sym c.of.ensures ∙ c.in-Some.ensures.taken) (sym c.begins_with_digit.ensures ∙ c.if-not-begins_with_digit.true) in run.first

pub returns : goal.returns
returns c = λ before clean.
    let run = words_run before c.args.line.now c.in-Some.first.now c.next_field.new.self (sym c.of.ensures ∙ c.in-Some.ensures.taken) (sym c.begins_with_digit.ensures ∙ c.if-not-begins_with_digit.false) clean.none in
    c.word_of.ensures ∙ run.first
