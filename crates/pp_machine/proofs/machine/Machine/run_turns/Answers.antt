use Rattle.std.proofs.Common.{arith}
use Rattle.std.proofs.lemmas.List.{get_or_read}
use Rattle.pp_machine.proofs.RunLemmas.{run_more, if_made}
use Rattle.pp_machine.proofs.machine.Machine.run_turns.Goals as goal

pub loop-i-preserved : goal.loop-i-preserved
loop-i-preserved g c = grind (arith, if_made, get_or_read, run_more)
