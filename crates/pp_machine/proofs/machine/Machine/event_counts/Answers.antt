use Rattle.std.proofs.Common.{arith}
use Rattle.pp_numbers.specs.ChannelNo.{channel_places}
use Rattle.pp_machine.proofs.machine.Machine.event_counts.Goals as goal

pub returns : goal.returns
returns g c = λ n names. c.loop-place.invariant.each _ (omega (arith, channel_places.place_below n names))
