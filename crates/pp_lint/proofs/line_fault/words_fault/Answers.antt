use Rattle.std.proofs.Common.{None, Some, sym, ap, arith, length, ◌∙◌}
use Rattle.pp_deck.specs.declared.deck_fault.DeckCode.{DeckCode}
use Rattle.pp_lint.proofs.FaultOfLineLemmas.{word_bad, word_past, word_then, words_end}
use Rattle.pp_lint.proofs.line_fault.words_fault.Goals as goal

pub returns-in_default-numeral : goal.returns-in_default-numeral
returns-in_default-numeral c =
    c.loop-field.invariant.goes_on (Some (record { code = DeckCode.BadDigits; field = c.loop-field.number })) (word_bad c.args.most c.args.end c.loop-field.place c.loop-field.number c.args.past _ c.in-Some.field.now _ c.in-Some.ensures.taken (sym c.numeral.ensures.exact ∙ c.in_default-numeral.is))

pub returns-then-place-end : goal.returns-then-place-end
returns-then-place-end c =
    c.loop-field.invariant.goes_on (Some (record { code = c.args.past; field = c.loop-field.number })) (word_past c.args.most c.args.end c.loop-field.place c.in-Some-numeral.field-0 c.loop-field.number c.args.past _ c.in-Some.field.now _ c.in-Some.ensures.taken (sym c.in-Some-numeral.ensures.exact) c.if-place-end.true)

pub loop-field-preserved : goal.loop-field-preserved
loop-field-preserved c =
    let longer = ap length c.in-Some.ensures.taken in
    record {
      counted = omega (arith, c.loop-field.invariant.counted, longer);
      placed = omega (arith, c.loop-field.invariant.placed, longer);
      goes_on = λ fault has. c.loop-field.invariant.goes_on fault
          (word_then c.args.most c.args.end c.loop-field.place c.in-Some-numeral.field-0 c.loop-field.number c.args.past _ c.in-Some.field.now _ fault c.in-Some.ensures.taken (sym c.in-Some-numeral.ensures.exact) c.if-place-end.false has);
    }

pub returns : goal.returns
returns c = c.loop-field.invariant.goes_on None (words_end c.args.most c.args.end c.loop-field.place c.loop-field.number c.args.past _ c.in_default.ensures.none)
