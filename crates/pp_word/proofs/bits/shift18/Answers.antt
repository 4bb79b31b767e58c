use Rattle.std.proofs.Common.{arith}
use Rattle.pp_word.proofs.EachBit.{bits_of_left_shift, bits_of_right_shift}
use Rattle.pp_word.proofs.ShiftLemmas.{left_shift_is, right_shift_is}
use Rattle.pp_word.proofs.bits.shift18.Goals as goal

pub returns-then-by-lt32-clause-value : goal.returns-then-by-lt32-clause-value
returns-then-by-lt32-clause-value c = grind (arith, left_shift_is)

pub returns-then-by-lt32-clause-left : goal.returns-then-by-lt32-clause-left
returns-then-by-lt32-clause-left c = bits_of_left_shift c.args.a c.args.d _ (returns-then-by-lt32-clause-value c)

pub returns-else-by-lt32-clause-value : goal.returns-else-by-lt32-clause-value
returns-else-by-lt32-clause-value c = grind (arith, right_shift_is)

pub returns-else-by-lt32-clause-right : goal.returns-else-by-lt32-clause-right
returns-else-by-lt32-clause-right c = bits_of_right_shift c.args.a c.args.d _ (returns-else-by-lt32-clause-value c)
