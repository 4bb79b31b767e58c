use Rattle.std.proofs.Common.{arith}
use Rattle.pp_channel.proofs.HistoryLemmas.{lawful_empty}
use Rattle.pp_channel.proofs.channel.Channel.new.Goals as goal

-- what is kept of a history without events
pub invariant_of-result : goal.invariant_of-result
invariant_of-result g c = grind (arith, lawful_empty)
