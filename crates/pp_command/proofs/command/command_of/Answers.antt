use Rattle.std.proofs.Common.{arith}
use Rattle.pp_command.proofs.CommandLemmas.{add_next}
use Rattle.pp_command.proofs.command.command_of.Goals as goal

pub loop-option-preserved : goal.loop-option-preserved
loop-option-preserved c = grind (arith, add_next)
