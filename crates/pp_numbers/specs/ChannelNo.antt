-- The numbers of the data channels, and the place of each in a list of all. A number and its place
-- are two things: proofs know of them what `channel_places` says. (Manual 60100000, data channels:
-- twelve, numbered 0 to 13 (octal).) The twenty-four of this project go on with 20 to 33.
use Rattle.std.specs.Prelude.{ℕ, Bool, List}
use Rattle.pp_numbers.specs.GappedNumbers.{ArePlaces, is_number, index_of, number_of, places}
use Rattle.pp_numbers.specs.Tables.{tabulate}

abbrev pub channel_count : ℕ
channel_count = 0o30

unfoldable pub names_channel : ℕ → Bool
names_channel = is_number 0o14 4

-- the place of the channel with this number in a list of all; past its end if it names none
unfoldable pub channel_index : ℕ → ℕ
channel_index = index_of 0o14 4

-- the number of the channel at a place of that list
unfoldable pub channel_number : ℕ → ℕ
channel_number = number_of 0o14 4

unfoldable pub all_channels : List ℕ
all_channels = tabulate channel_count channel_number

pub channel_places : ArePlaces 0o14 channel_count names_channel channel_index channel_number
unfolding names_channel channel_index channel_number
channel_places = places 0o14 4
