use Rattle.std.proofs.Common.{sym}
use Rattle.pp_deck.specs.DeckLine.{start}
use Rattle.pp_lint.proofs.FaultOfLineLemmas.{start_a_bad, start_a_read}
use Rattle.pp_lint.proofs.line_fault.start_a_fault.Goals as goal

pub returns-in-Some : goal.returns-in-Some
returns-in-Some c = λ p.
    start_a_read p c.in-Some.field-0 _ c.in_ok-field.field.now _ c.end_fault.result c.in_ok-field.ensures.taken (sym c.in-Some.ensures.exact) (c.end_fault.ensures (start p c.in-Some.field-0))

pub returns-in-None : goal.returns-in-None
returns-in-None c = λ p. start_a_bad p _ c.in_ok-field.field.now _ c.in_ok-field.ensures.taken (sym c.in-None.ensures.exact)
