use Rattle.std.proofs.Common.{refl, sym, ◌∙◌}
use Rattle.pp_deck.specs.DeckLine.{dead_start}
use Rattle.pp_deck.specs.declared.deck_fault.DeckCode.{DeckCode}
use Rattle.pp_lint.specs.LineFault.{fault_after}
use Rattle.pp_lint.proofs.FaultLemmas.{fault_on}
use Rattle.pp_lint.proofs.FaultOfLineLemmas.{blank_line, first_at_fault, says_central, says_central_words, says_dead_start, says_early_start, says_early_words, says_late_central, says_nothing, says_section, says_start, says_words}
use Rattle.pp_lint.proofs.line_fault.fault_of.Goals as goal

pub returns-in_err-first : goal.returns-in_err-first
returns-in_err-first c = rw (c.from_residual.ensures, c.in_err-first.ensures.none) (blank_line c.args.before.now)

pub returns-then-before : goal.returns-then-before
returns-then-before c = rw c.at_first.ensures (first_at_fault c.args.before.now _ c.in_ok-first.first.now _ DeckCode.UnknownLine c.in_ok-first.ensures.taken
    (λ more. says_late_central c.args.before.now c.in_ok-first.first.now more (sym c.is.ensures ∙ c.if-is.true) c.if-before.true))

pub returns-else-before : goal.returns-else-before
returns-else-before c = rw c.in_ok-first.ensures.taken (c.central_fault.ensures c.in_ok-first.first.now (fault_after c.args.before.now) (blank_line c.args.before.now)
    (λ more. says_central c.args.before.now c.in_ok-first.first.now more (sym c.is.ensures ∙ c.if-is.true) c.if-before.false))

pub returns-then-is-2 : goal.returns-then-is-2
returns-then-is-2 c = rw c.in_ok-first.ensures.taken (c.central_words_fault.ensures c.in_ok-first.first.now (fault_after c.args.before.now) (blank_line c.args.before.now)
    (λ more. says_central_words c.args.before.now c.in_ok-first.first.now more (sym c.is.ensures ∙ c.if-is.false) (sym c.is-2.ensures ∙ c.if-is-2.true)))

pub returns-then-is-3 : goal.returns-then-is-3
returns-then-is-3 c = rw c.in_ok-first.ensures.taken (c.section_fault.ensures c.in_ok-first.first.now (fault_after c.args.before.now) (blank_line c.args.before.now)
    (λ more. says_section c.args.before.now c.in_ok-first.first.now more (sym c.is.ensures ∙ c.if-is.false) (sym c.is-2.ensures ∙ c.if-is-2.false) (sym c.is-3.ensures ∙ c.if-is-3.true)))

pub returns-then-before-2 : goal.returns-then-before-2
returns-then-before-2 c = rw c.in_ok-first.ensures.taken (c.start_fault.ensures c.in_ok-first.first.now (fault_after c.args.before.now) (blank_line c.args.before.now)
    (λ more. says_start c.args.before.now c.in_ok-first.first.now more (sym c.is.ensures ∙ c.if-is.false) (sym c.is-2.ensures ∙ c.if-is-2.false) (sym c.is-3.ensures ∙ c.if-is-3.false) (sym c.is-4.ensures ∙ c.if-is-4.true) c.if-before-2.true))

pub returns-else-before-2 : goal.returns-else-before-2
returns-else-before-2 c = rw c.at_first-else-before-2.ensures (first_at_fault c.args.before.now _ c.in_ok-first.first.now _ DeckCode.NoProcessor c.in_ok-first.ensures.taken
    (λ more. says_early_start c.args.before.now c.in_ok-first.first.now more (sym c.is.ensures ∙ c.if-is.false) (sym c.is-2.ensures ∙ c.if-is-2.false) (sym c.is-3.ensures ∙ c.if-is-3.false) (sym c.is-4.ensures ∙ c.if-is-4.true) c.if-before-2.false))

pub returns-then-is-5 : goal.returns-then-is-5
returns-then-is-5 c = fault_on (fault_after c.args.before.now) _ _ c.in_ok-first.first.now _ 0 1 c.end_fault.result c.in_ok-first.ensures.taken
    (λ more. says_dead_start c.args.before.now c.in_ok-first.first.now more (sym c.is.ensures ∙ c.if-is.false) (sym c.is-2.ensures ∙ c.if-is-2.false) (sym c.is-3.ensures ∙ c.if-is-3.false) (sym c.is-4.ensures ∙ c.if-is-4.false) (sym c.is-5.ensures ∙ c.if-is-5.true)) refl (c.end_fault.ensures dead_start)

pub returns-then-not-begins_with_digit : goal.returns-then-not-begins_with_digit
returns-then-not-begins_with_digit c = rw c.at_first-then-not-begins_with_digit.ensures (first_at_fault c.args.before.now _ c.in_ok-first.first.now _ DeckCode.UnknownLine c.in_ok-first.ensures.taken
    (λ more. says_nothing c.args.before.now c.in_ok-first.first.now more (sym c.is.ensures ∙ c.if-is.false) (sym c.is-2.ensures ∙ c.if-is-2.false) (sym c.is-3.ensures ∙ c.if-is-3.false) (sym c.is-4.ensures ∙ c.if-is-4.false) (sym c.is-5.ensures ∙ c.if-is-5.false) (sym c.begins_with_digit.ensures ∙ c.if-not-begins_with_digit.true)))

pub returns-then-not-before : goal.returns-then-not-before
returns-then-not-before c = rw c.at_first-then-not-before.ensures (first_at_fault c.args.before.now _ c.in_ok-first.first.now _ DeckCode.NoProcessor c.in_ok-first.ensures.taken
    (λ more. says_early_words c.args.before.now c.in_ok-first.first.now more (sym c.is.ensures ∙ c.if-is.false) (sym c.is-2.ensures ∙ c.if-is-2.false) (sym c.is-3.ensures ∙ c.if-is-3.false) (sym c.is-4.ensures ∙ c.if-is-4.false) (sym c.is-5.ensures ∙ c.if-is-5.false) (sym c.begins_with_digit.ensures ∙ c.if-not-begins_with_digit.false) c.if-not-before.true))

pub returns : goal.returns
returns c = rw c.in_ok-first.ensures.taken (c.words_line_fault.ensures (fault_after c.args.before.now) (blank_line c.args.before.now)
    (λ more. says_words c.args.before.now c.in_ok-first.first.now more (sym c.is.ensures ∙ c.if-is.false) (sym c.is-2.ensures ∙ c.if-is-2.false) (sym c.is-3.ensures ∙ c.if-is-3.false) (sym c.is-4.ensures ∙ c.if-is-4.false) (sym c.is-5.ensures ∙ c.if-is-5.false) (sym c.begins_with_digit.ensures ∙ c.if-not-begins_with_digit.false) c.if-not-before.false))
