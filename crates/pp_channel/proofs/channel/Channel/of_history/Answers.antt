use Rattle.std.proofs.Common.{arith}
use Rattle.pp_channel.proofs.KeptLemmas.{kept_by_last, kept_by_none}
use Rattle.pp_channel.proofs.channel.Channel.of_history.Goals as goal
use Rattle.pp_channel.proofs.channel.Channel.of_history.Goals.{in-Some, in_default}

pub invariant_of-result : goal.invariant_of-result
invariant_of-result g c = grind (arith, in-Some, kept_by_last, in_default, kept_by_none)
