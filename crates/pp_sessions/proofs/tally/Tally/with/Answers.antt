use Rattle.std.proofs.Common.{arith}
use Rattle.pp_sessions.proofs.tally.Tally.with.Goals as goal
use Rattle.pp_sessions.proofs.tally.Tally.with.Goals.{in-Put, in-Take, in-Activate}

pub returns-clause-tally : goal.returns-clause-tally
returns-clause-tally c = grind (arith, in-Put, in-Take, in-Activate)
