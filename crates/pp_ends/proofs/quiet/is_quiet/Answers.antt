use Rattle.std.proofs.Common.{arith}
use Rattle.pp_ends.proofs.QuietLemmas.{quiet_by_places}
use Rattle.pp_ends.proofs.quiet.is_quiet.Goals as goal

pub returns-then-would_move : goal.returns-then-would_move
returns-then-would_move g c = grind arith

pub loop-place-preserved : goal.loop-place-preserved
loop-place-preserved g c = grind arith

pub returns : goal.returns
returns g c = grind (arith, quiet_by_places)
