use Rattle.std.proofs.Common.{ap, ◌∙◌, arith}
use Rattle.pp_word.specs.Bits.{bit}
use Rattle.pp_word.proofs.EachBit.{bit-complement}
use Rattle.pp_word.proofs.ShiftLemmas.{complemented_is}
use Rattle.pp_word.proofs.bits.complement18.Goals as goal

pub returns-clause-value : goal.returns-clause-value
returns-clause-value c = grind (arith, complemented_is)

pub returns-clause-each_bit : goal.returns-clause-each_bit
returns-clause-each_bit c = λ i h. ap (λ w. bit w i) (returns-clause-value c) ∙ bit-complement c.args.a i h
