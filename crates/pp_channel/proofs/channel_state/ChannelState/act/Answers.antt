use Rattle.std.proofs.Common.{arith}
use Rattle.pp_channel.proofs.ChannelStateLemmas.{state_after}
use Rattle.pp_channel.proofs.channel_state.ChannelState.act.Goals as goal

pub returns-clause-after : goal.returns-clause-after
returns-clause-after c = grind (arith, state_after)
