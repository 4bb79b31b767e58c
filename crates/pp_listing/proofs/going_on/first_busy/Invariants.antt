use Rattle.pp_numbers.specs.ChannelNo.{channel_count, channel_number}
use Rattle.pp_numbers.specs.PpNo.{processor_count, processor_number}
use Rattle.pp_listing.specs.Dump.{busy_channel, busy_processor}
use Rattle.pp_listing.proofs.GoingOnLemmas.{IsFirstFrom}
use Rattle.pp_listing.proofs.going_on.first_busy.Given as goal

abbrev pub invariant-loop-place : goal.invariant-loop-place
invariant-loop-place g l = IsFirstFrom (busy_processor l.machine) processor_number l.place processor_count

abbrev pub invariant-loop-place-2 : goal.invariant-loop-place-2
invariant-loop-place-2 g l = IsFirstFrom (busy_channel l.machine) channel_number l.place channel_count
