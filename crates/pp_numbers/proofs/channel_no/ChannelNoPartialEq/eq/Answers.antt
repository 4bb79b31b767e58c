use Rattle.std.proofs.Common.{nat_eq, arith}
use Rattle.pp_numbers.specs.ChannelNo.{channel_places}
use Rattle.pp_numbers.proofs.channel_no.ChannelNoPartialEq.eq.Goals as goal

pub returns : goal.returns
returns c = grind (arith, channel_places.place_again, nat_eq)
