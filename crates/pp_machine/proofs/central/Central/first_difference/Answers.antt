use Rattle.std.proofs.Common.{◌∙◌, arith, ext_get_or, sym}
use Rattle.pp_machine.proofs.central.Central.first_difference.Goals as goal

pub returns-clause-same : goal.returns-clause-same
returns-clause-same g c = λ _.
    ext_get_or 0 c.args.self.now c.args.other.now (sym c.size-size.ensures.value ∙ sym c.if-size.false ∙ c.size.ensures.value)
    (λ k low. c.loop-number.invariant k (omega (arith, low, c.size-size.ensures.value, c.loop-number-test.false)))
