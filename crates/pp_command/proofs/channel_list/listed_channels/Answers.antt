use Rattle.std.proofs.Common.{rules}
use Rattle.pp_numbers.specs.ChannelNo.{channel_count, names_channel}
use Rattle.pp_command.specs.ChannelList.{is_flagged_channel}
use Rattle.pp_command.proofs.NumberListLemmas.{all_flagged, flag_more, no_list, one_channel}
use Rattle.pp_command.specs.NumberList.{numbered, numbers_of}
use Rattle.pp_command.proofs.channel_list.listed_channels.Goals as goal

pub loop-rest-preserved : goal.loop-rest-preserved
unfolding numbered
loop-rest-preserved c =
    let so_far = rw (c.in-Some.is, c.first_of.ensures.parted) at c.loop-rest.invariant in
    rw c.index.ensures.place (flag_more names_channel channel_count is_flagged_channel (numbers_of c.args.text.now) c.loop-rest.flags _ c.first_of.result.0.now _ c.in_ok-channel.channel so_far (search rules)
    (one_channel c.loop-rest.flags c.in_ok-channel.channel c.loop-rest.invariant.each_place (search rules)))

pub returns : goal.returns
returns c = all_flagged names_channel channel_count is_flagged_channel c.args.text.now c.loop-rest.flags (rw c.in_default.is at c.loop-rest.invariant)

pub returns-in_err-channel : goal.returns-in_err-channel
unfolding numbered
returns-in_err-channel c =
    let so_far = rw (c.in-Some.is, c.first_of.ensures.parted) at c.loop-rest.invariant in
    rw c.from_residual-in_err-channel.ensures (no_list names_channel channel_count is_flagged_channel c.args.text.now c.loop-rest.flags c.first_of.result.0.now _ so_far (search rules))

pub returns-in_err-numeral : goal.returns-in_err-numeral
unfolding numbered
returns-in_err-numeral c =
    let so_far = rw (c.in-Some.is, c.first_of.ensures.parted) at c.loop-rest.invariant in
    rw c.from_residual.ensures (no_list names_channel channel_count is_flagged_channel c.args.text.now c.loop-rest.flags c.first_of.result.0.now _ so_far (search rules))
