use Rattle.std.proofs.Common.{arith}
use Rattle.pp_deck.proofs.DeadStartLemmas.{unnamed_are}
use Rattle.pp_deck.proofs.reading.unnamed.Goals as goal

pub returns : goal.returns
returns c = unnamed_are c.args.profile c.args.named.now c.loop-place.unnamed c.loop-place.invariant.each (λ k before. c.loop-place.invariant.done k (omega (arith))) (λ k past. c.loop-place.invariant.left k (omega (arith)))
