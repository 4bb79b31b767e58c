use Rattle.std.proofs.Common.{◌≡◌, Some, arith}
use Rattle.std.specs.Prelude.{filter_map, slice_get}
use Rattle.pp_numbers.specs.ChannelNo.{all_channels, channel_count, channel_number}
use Rattle.pp_numbers.specs.PpNo.{all_processors, processor_count, processor_number}
use Rattle.pp_listing.specs.Dump.{busy_channel, busy_processor}
use Rattle.pp_listing.specs.declared.going_on.Busy.TheVariants.{Active}
use Rattle.pp_listing.proofs.GoingOnLemmas.{from_start, none_more, first_found, none_found, in_processor_there, first_of_processors, first_of_channels}
use Rattle.pp_listing.proofs.going_on.first_busy.Goals as goal

pub loop-place-init : goal.loop-place-init
loop-place-init g c = from_start (busy_processor c.args.machine.now) processor_number processor_count

pub returns-in-Some : goal.returns-in-Some
unfolding all_processors
returns-in-Some g c =
    first_of_processors c.args.machine.now c.in-Some.going_on (first_found (busy_processor c.args.machine.now) processor_number c.loop-place.place processor_count c.in-Some.going_on (omega (arith, c.loop-place-test.true)) c.loop-place.invariant
    (in_processor_there c.args.machine.now _ c.at-n.result c.pp.result.now _ c.at-n.ensures.number c.pp.ensures c.in-Some.ensures))

pub loop-place-preserved : goal.loop-place-preserved
loop-place-preserved g c = grind (arith, none_more, in_processor_there)

pub loop-place-2-init : goal.loop-place-2-init
loop-place-2-init g c = from_start (busy_channel c.args.machine.now) channel_number channel_count

pub returns-then-flags : goal.returns-then-flags
unfolding all_processors all_channels
returns-then-flags g c =
    let none = none_found (busy_processor c.args.machine.now) processor_number c.loop-place.place processor_count (omega arith) c.loop-place.invariant in
    let found : Some (Active c.at-c.result) ≡ slice_get (filter_map (busy_channel c.args.machine.now) all_channels) 0 = grind (arith, first_found) in
    first_of_channels c.args.machine.now _ none found

pub loop-place-2-preserved : goal.loop-place-2-preserved
loop-place-2-preserved g c = grind (arith, none_more)

pub returns : goal.returns
unfolding all_processors all_channels
returns g c =
    first_of_channels c.args.machine.now _ (none_found (busy_processor c.args.machine.now) processor_number c.loop-place.place processor_count (omega arith) c.loop-place.invariant)
    (none_found (busy_channel c.args.machine.now) channel_number c.loop-place-2.place channel_count (omega arith) c.loop-place-2.invariant)
