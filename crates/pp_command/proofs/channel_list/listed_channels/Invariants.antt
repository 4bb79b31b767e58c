use Rattle.std.specs.Prelude.{option_map}
use Rattle.pp_numbers.specs.ChannelNo.{channel_count, names_channel}
use Rattle.pp_command.specs.ChannelList.{is_flagged_channel}
use Rattle.pp_command.specs.NumberList.{numbers_in, numbers_of}
use Rattle.pp_command.proofs.NumberListLemmas.{HasFlagged, bytes_in}
use Rattle.pp_command.proofs.channel_list.listed_channels.Given as goal

abbrev pub invariant-loop-rest : goal.invariant-loop-rest
invariant-loop-rest l = HasFlagged names_channel channel_count is_flagged_channel (numbers_of l.text) l.flags (numbers_in (option_map (λ list. list.now) l.rest))

abbrev pub decreases-loop-rest : goal.decreases-loop-rest
decreases-loop-rest l = bytes_in (option_map (λ list. list.now) l.rest)
