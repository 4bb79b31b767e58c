use Rattle.std.proofs.Common.{rules}
use Rattle.pp_line.proofs.SeenLemmas.{greater_is}
use Rattle.pp_line.proofs.line.greater_of_each.Goals as goal

pub returns : goal.returns
returns c = greater_is _ _ _ (search rules) (search rules) (λ k inside. c.loop-place.invariant.done k (search rules))
