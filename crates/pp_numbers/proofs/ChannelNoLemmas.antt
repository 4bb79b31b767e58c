-- Numbers of channels and their places: all that proofs know of them.
use Rattle.std.proofs.Common.{◌≡◌, ℕ, ◌<◌, List, [], arith}
use Rattle.std.specs.Prelude.{IsTrue}
use Rattle.std.specs.List.{flat_map, range_with_len}
use Rattle.pp_numbers.specs.GappedNumbers.{is_number, number_of}
use Rattle.pp_numbers.proofs.GappedNumberLemmas.{over_numbers}
use Rattle.pp_numbers.specs.Tables.{tabulate}
use Rattle.pp_numbers.specs.ChannelNo.{all_channels, names_channel, channel_number}

-- a channel's number has two octal digits
pub channel_fits : (c : ℕ) → IsTrue (names_channel c) → c < 0o100
unfolding names_channel is_number
channel_fits c names = grind arith

-- the second half are named from 20 on
pub named_high : (c : ℕ) → 0o17 < c → c < 0o34 → IsTrue (names_channel c)
unfolding names_channel is_number
named_high c past below = grind (arith, past, below)

-- a walk over all channels is one over all numbers of two octal digits
pub numbers_of_channels : {X : Type 0} (f : ℕ → List X)
    → ((c : ℕ) → (IsTrue (names_channel c) → ⊥) → f c ≡ [])
    → flat_map f all_channels ≡ flat_map f (range_with_len 0 0o100)
unfolding all_channels tabulate channel_number names_channel number_of
numbers_of_channels f none = over_numbers 0o14 4 0o44 f none
