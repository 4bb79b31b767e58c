use Rattle.std.proofs.Common.{arith}
use Rattle.pp_machine.proofs.RunLemmas.{barrel_more, length-barrel}
use Rattle.pp_ends.proofs.StillLemmas.{turn_read}
use Rattle.pp_ends.proofs.run.run_to_last_move.Goals as goal
use Rattle.std.proofs.lemmas.Bool.{cases_eq}
use Rattle.pp_ends.proofs.run.run_to_last_move.Goals.{then-step_moves, else-step_moves}

pub loop-turn-preserved : goal.loop-turn-preserved
loop-turn-preserved g c = grind (arith, turn_read, barrel_more, then-step_moves, else-step_moves, cases_eq)

pub returns-clause-ran : goal.returns-clause-ran
returns-clause-ran g c = grind (arith, length-barrel)

pub returns-clause-still : goal.returns-clause-still
returns-clause-still g c = grind (arith, length-barrel)
