-- Lists of channels, like `1,5,13`.
use Rattle.std.specs.Prelude.{ℕ, Bool, false, List, slice_index_or}
use Rattle.pp_numbers.specs.ChannelNo.{channel_count, channel_index, names_channel}
use Rattle.pp_command.specs.NumberList.{AreFlagged}

-- the flag of channel c, among flags in the order of their places
abbrev pub is_flagged_channel : List Bool → ℕ → Bool
is_flagged_channel flags c = slice_index_or flags (channel_index c) false

-- a text lists these channels
abbrev pub AreListed : List ℕ → List Bool → Type 0
AreListed = AreFlagged names_channel channel_count is_flagged_channel
