-- Profiles: how many processors and channels a machine has. Its processors stand at the first
-- places of the barrel, its channels at the first places in order of number. (Manual 60100000: ten
-- processors and twelve channels. A machine of twenty has twice as many of both: this project's own
-- profile, with a gap in the numbers after the first ten and the first twelve.)
use Rattle.std.specs.Prelude.{ℕ, ◌%◌, Bool, nat_lt}
use Rattle.pp_numbers.specs.ChannelNo.{channel_count, channel_index}
use Rattle.pp_numbers.specs.PpNo.{processor_count, processor_index, processor_number}
use Rattle.pp_numbers.specs.declared.profile.Profile.{Profile}
use Rattle.pp_numbers.specs.declared.profile.Profile.TheVariants.{Ten, Twenty}

abbrev pub processors_in : Profile → ℕ
processors_in Ten = 0o12
processors_in Twenty = processor_count

abbrev pub channels_in : Profile → ℕ
channels_in Ten = 0o14
channels_in Twenty = channel_count

unfoldable pub has_processor : Profile → ℕ → Bool
has_processor profile number = nat_lt (processor_index number) (processors_in profile)

unfoldable pub has_channel : Profile → ℕ → Bool
has_channel profile number = nat_lt (channel_index number) (channels_in profile)

-- the processor whose turn it is after `turn` turns of the barrel
abbrev pub processor_in_turn : Profile → ℕ → ℕ
processor_in_turn profile turn = processor_number (turn % processors_in profile)
