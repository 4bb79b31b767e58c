use Rattle.std.proofs.Common.{sym, ◌∙◌}
use Rattle.pp_lint.proofs.FindingLemmas.{found_first, size_central, size_later, size_none, size_other}
use Rattle.pp_lint.proofs.lint_text.size_of.Goals as goal

pub loop-line-init : goal.loop-line-init
loop-line-init c = found_first c.args.deck.now _ c.of-lines.ensures

pub returns-then-is : goal.returns-then-is
returns-then-is c = c.central_size.ensures ∙ size_central c.args.deck.now _ c.in-Some.line.now _ c.in-Some-next_field.first.now _ c.loop-line.invariant c.in-Some.ensures.taken
    (sym c.of-fields.ensures ∙ c.in-Some-next_field.ensures.taken) (sym c.is.ensures ∙ c.if-is.true)

pub returns-else-is : goal.returns-else-is
returns-else-is c = size_other c.args.deck.now _ c.in-Some.line.now _ c.in-Some-next_field.first.now _ c.loop-line.invariant c.in-Some.ensures.taken
    (sym c.of-fields.ensures ∙ c.in-Some-next_field.ensures.taken) (sym c.is.ensures ∙ c.if-is.false)

pub loop-line-preserved : goal.loop-line-preserved
loop-line-preserved c = size_later c.args.deck.now _ c.in-Some.line.now _ c.loop-line.invariant c.in-Some.ensures.taken (sym c.of-fields.ensures ∙ c.in_default-next_field.ensures.none)

pub returns : goal.returns
returns c = size_none c.args.deck.now _ c.loop-line.invariant c.in_default.ensures.none
