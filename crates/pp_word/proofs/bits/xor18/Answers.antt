use Rattle.std.proofs.Common.{ap, ◌∙◌, arith, not, if◌then◌else◌}
use Rattle.pp_word.specs.Bits.{bit}
use Rattle.pp_word.proofs.EachBit.{bit-combination}
use Rattle.pp_word.proofs.LogicLemmas.{logical_difference_is}
use Rattle.pp_word.proofs.bits.xor18.Goals as goal

pub returns-clause-value : goal.returns-clause-value
returns-clause-value c = grind (arith, logical_difference_is)

pub returns-clause-each_bit : goal.returns-clause-each_bit
returns-clause-each_bit c = λ i h.
    ap (λ w. bit w i) (returns-clause-value c) ∙ bit-combination (λ x y. if x then not y else y) c.args.a c.args.b i h
