use Rattle.std.proofs.Common.{arith, lit<}
use Rattle.std.proofs.Math.Nat.{pow-le-pow_right}
use Rattle.pp_deck.proofs.octal_number.number.Goals as goal

pub numeral-requires-clause-most : goal.numeral-requires-clause-most
numeral-requires-clause-most c = omega (arith, pow-le-pow_right {n = 8} (lit< tt) {i = c.args.most} {j = 20} (omega arith))
