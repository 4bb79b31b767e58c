use Rattle.std.proofs.Common.{arith}
use Rattle.pp_ends.proofs.QuietLemmas.{at_rest_by_places}
use Rattle.pp_ends.proofs.quiet.is_running.Goals as goal

pub returns : goal.returns
returns g c = grind (arith, at_rest_by_places)
