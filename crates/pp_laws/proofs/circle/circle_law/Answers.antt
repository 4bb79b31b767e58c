use Rattle.std.proofs.Common.{arith}
use Rattle.pp_laws.proofs.CircleLemmas.{are_histories, are_merged, are_monotone, no_order}
use Rattle.pp_laws.proofs.circle.circle_law.Goals as goal

pub returns : goal.returns
returns c = grind (arith, are_histories, are_monotone, are_merged, no_order)
