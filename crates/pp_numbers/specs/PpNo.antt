-- The numbers of the peripheral processors, and the place of each in a list of all. A number and
-- its place are two things: proofs know what `processor_places` says. (Manual 60100000, peripheral
-- processors: ten, 0 to 11 (octal), take turns in a barrel.) The twenty of this project go on with
-- 20 to 31.
use Rattle.std.specs.Prelude.{ℕ, ◌&&◌, Bool, false, List, slice_index_or}
use Rattle.pp_numbers.specs.GappedNumbers.{ArePlaces, is_number, index_of, number_of, places}
use Rattle.pp_numbers.specs.Tables.{tabulate}

abbrev pub processor_count : ℕ
processor_count = 0o24

unfoldable pub names_processor : ℕ → Bool
names_processor = is_number 0o12 6

-- the place of the processor with this number in a list of all; past its end if it names none
unfoldable pub processor_index : ℕ → ℕ
processor_index = index_of 0o12 6

-- the number of the processor at a place
unfoldable pub processor_number : ℕ → ℕ
processor_number = number_of 0o12 6

-- something for each processor, in the order of the barrel
abbrev pub each_processor : {A : Type 0} → (ℕ → A) → List A
each_processor of = tabulate processor_count (λ place. of (processor_number place))

unfoldable pub all_processors : List ℕ
all_processors = each_processor (λ n. n)

-- whether there is a processor with this number, and flags for all places name it
abbrev pub is_named : List Bool → ℕ → Bool
is_named named n = names_processor n && slice_index_or named (processor_index n) false

pub processor_places : ArePlaces 0o12 processor_count names_processor
    processor_index processor_number
unfolding names_processor processor_index processor_number
processor_places = places 0o12 6
