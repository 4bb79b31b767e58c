-- Numbers of processors and their places: all that proofs know of them.
use Rattle.std.proofs.Common.{◌≡◌, ℕ, ◌<◌, eqb, arith, List, []}
use Rattle.std.specs.Prelude.{IsTrue}
use Rattle.std.specs.List.{flat_map, range_with_len}
use Rattle.std.proofs.lemmas.Bool.{cases_eq, eq-eqb, ne_eqb}
use Rattle.pp_numbers.specs.GappedNumbers.{is_number, number_of}
use Rattle.pp_numbers.proofs.GappedNumberLemmas.{over_numbers}
use Rattle.pp_numbers.specs.Tables.{tabulate}
use Rattle.pp_numbers.specs.ChannelNo.{names_channel, channel_places}
use Rattle.pp_numbers.proofs.ChannelNoLemmas.{named_high}
use Rattle.pp_numbers.specs.PpNo.{all_processors, processor_count, processor_places, names_processor, processor_index, processor_number}

-- the number of a place is n's exactly if the place is
pub number_at : (place n : ℕ) → place < processor_count
    → eqb (processor_number place) n ≡ eqb place (processor_index n)
number_at place n below = grind (arith, eq-eqb, processor_places.number_of_place, processor_places.named_below, ne_eqb, processor_places.place_of_number, cases_eq)

-- a processor's number has two octal digits
pub processor_fits : (n : ℕ) → IsTrue (names_processor n) → n < 0o100
unfolding names_processor is_number
processor_fits n names = grind arith

-- a processor's number is that of a channel
pub channel_of_processor : (n : ℕ) → IsTrue (names_processor n) → IsTrue (names_channel n)
unfolding names_processor is_number
channel_of_processor n names = grind (arith, channel_places.named_low, named_high)

-- a walk over all processors is one over all numbers of two octal digits
pub numbers_of_processors : {X : Type 0} (f : ℕ → List X)
    → ((n : ℕ) → (IsTrue (names_processor n) → ⊥) → f n ≡ [])
    → flat_map f all_processors ≡ flat_map f (range_with_len 0 0o100)
unfolding all_processors tabulate processor_number names_processor number_of
numbers_of_processors f none = over_numbers 0o12 6 0o46 f none
