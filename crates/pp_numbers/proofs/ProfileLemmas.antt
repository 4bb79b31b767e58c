-- The processors and channels of a profile, their places, and whole rounds of its barrel.
use Rattle.std.proofs.Common.{◌≡◌, ℕ, ◌%◌, ◌<◌, ◌≤◌, false, ap, arith, suc, ◌+◌, ◌*◌, ◌/◌}
use Rattle.std.specs.Prelude.{IsTrue, nat_lt, ◌↔◌}
use Rattle.std.proofs.lemmas.Bool.{false≢true}
use Rattle.pp_numbers.specs.PpNo.{processor_count, processor_number, names_processor, processor_index, processor_places}
use Rattle.pp_numbers.specs.Profile.{processors_in, has_processor, channels_in, has_channel, processor_in_turn}
use Rattle.pp_numbers.specs.declared.profile.Profile.{Profile}
use Rattle.pp_numbers.specs.declared.profile.Profile.TheVariants.{Ten, Twenty}
use Rattle.pp_numbers.specs.ChannelNo.{channel_count, names_channel, channel_places}

-- no profile has more than there are
pub most_processors : (p : Profile) → processors_in p ≤ processor_count
most_processors Ten = omega arith
most_processors Twenty = omega arith

-- what a profile has, a number names
pub processor_named : (p : Profile) (n : ℕ) → IsTrue (has_processor p n)
    → IsTrue (names_processor n)
unfolding has_processor
processor_named p n has = grind (arith, most_processors, processor_places.named_below)

-- a number that names none, no profile has
pub unnamed_lacks : (p : Profile) (n : ℕ) → names_processor n ≡ false → has_processor p n ≡ false
unnamed_lacks p n none = grind (arith, false≢true, processor_named)

-- a profile has the processors of the first places
pub has_at : (p : Profile) (place : ℕ) → place < processor_count
    → has_processor p (processor_number place) ≡ nat_lt place (processors_in p)
unfolding has_processor
has_at p place within = grind (arith, processor_places.place_of_number)

-- the turn after whole rounds is one of the first round
pub rest_within : (p : Profile) (turns : ℕ) → turns % processors_in p < processors_in p
rest_within Ten turns = omega arith
rest_within Twenty turns = omega arith

pub most_channels : (p : Profile) → channels_in p ≤ channel_count
most_channels Ten = omega arith
most_channels Twenty = omega arith

pub channel_named : (p : Profile) (c : ℕ) → IsTrue (has_channel p c) → IsTrue (names_channel c)
unfolding has_channel
channel_named p c has = let most = most_channels p in channel_places.named_below c (grind arith)

-- the channels of each profile by number
pub channels_of_ten : (c : ℕ) → IsTrue (has_channel Ten c) ↔ (c < 0o14)
unfolding has_channel
channels_of_ten c = grind (arith, channel_places.low_number, channel_places.low_place)

-- numbers that are small enough name one
pub small_channels : (c : ℕ) → c < 0o14 → IsTrue (names_channel c)
small_channels c below = channel_named Ten c ((channels_of_ten c).1 below)

pub channels_of_twenty : (c : ℕ) → IsTrue (has_channel Twenty c) ↔ IsTrue (names_channel c)
unfolding has_channel
channels_of_twenty c = (λ has. channel_named Twenty c has, λ names. let below = channel_places.place_below c names in grind arith)

-- turns within the first round come in the order of places
pub place_in_turn : (p : Profile) (turn : ℕ) → turn < processors_in p → turn % processors_in p ≡ turn
place_in_turn Ten turn within = omega arith
place_in_turn Twenty turn within = omega arith

pub in_turn_at : (p : Profile) (place : ℕ) → place < processors_in p → processor_in_turn p place ≡ processor_number place
in_turn_at p place within = ap processor_number (place_in_turn p place within)

pub index_in_turn : (p : Profile) (place : ℕ) → place < processors_in p → processor_index (processor_in_turn p place) ≡ place
index_in_turn p place within = grind (arith, most_processors, in_turn_at, processor_places.place_of_number)

-- after whole rounds the barrel begins anew
pub place_in_round : (p : Profile) (rounds turn : ℕ) → (rounds * processors_in p + turn) % processors_in p ≡ turn % processors_in p
place_in_round Ten rounds turn = omega arith
place_in_round Twenty rounds turn = omega arith

pub in_round : (p : Profile) (rounds turn : ℕ) → processor_in_turn p (rounds * processors_in p + turn) ≡ processor_in_turn p turn
in_round p rounds turn = ap processor_number (place_in_round p rounds turn)

-- rounds are counted in turns
pub more_rounds : (p : Profile) (rounds more : ℕ) → (rounds + more) * processors_in p ≡ rounds * processors_in p + more * processors_in p
more_rounds Ten rounds more = omega arith
more_rounds Twenty rounds more = omega arith

pub no_rounds : (p : Profile) → 0 * processors_in p ≡ 0
no_rounds Ten = omega arith
no_rounds Twenty = omega arith

pub next_round : (p : Profile) (rounds : ℕ) → suc rounds * processors_in p ≡ rounds * processors_in p + processors_in p
next_round Ten rounds = omega arith
next_round Twenty rounds = omega arith

pub fewer_rounds : (p : Profile) (rounds more : ℕ) → rounds ≤ more → rounds * processors_in p ≤ more * processors_in p
fewer_rounds Ten rounds more within = omega arith
fewer_rounds Twenty rounds more within = omega arith

pub rounds_and_rest : (p : Profile) (turns : ℕ) → turns / processors_in p * processors_in p + turns % processors_in p ≡ turns
rounds_and_rest Ten turns = omega arith
rounds_and_rest Twenty turns = omega arith

pub ruleset channels_of_profiles = (channels_of_ten, channels_of_twenty, small_channels)
