-- Orders of steps, like `0:3,1,11:20`: processors, each in one or two octal digits, with a comma
-- between them. One that makes several steps in a row has a colon behind it, and their number, in
-- one to six decimal digits.
use Rattle.std.specs.Prelude.{ℕ, suc, ◌+◌, ◌==◌, Bool, List, [], ◌∷◌, ◌++◌, Option, None, Some, drop, length, nat_le, position, replicate, take, if◌then◌else◌}
use Rattle.std.specs.Option.{option_and_then, option_map}
use Rattle.pp_numbers.specs.Profile.{has_processor}
use Rattle.pp_numbers.specs.declared.profile.Profile.{Profile}
use Rattle.pp_word.specs.Numeral.{numeral}
use Rattle.pp_command.specs.NumberList.{numbered, numbers_of}

-- a colon is 58 in ASCII (decimal)
abbrev pub is_colon : ℕ → Bool
is_colon byte = byte == 58

-- so many steps of a processor, and at least one
abbrev pub steps_of : Option ℕ → Option ℕ → Option (List ℕ)
steps_of (Some n) (Some (suc k)) = Some (replicate (suc k) n)
steps_of n count = None

-- the steps of an item whose first colon stands at this place, or that has none
abbrev pub item_by : Profile → List ℕ → Option ℕ → Option (List ℕ)
item_by profile item None = steps_of (numbered (has_processor profile) item) (Some 1)
item_by profile item (Some place) = steps_of (numbered (has_processor profile) (take place item))
    (numeral 10 6 (drop (place + 1) item))

-- the steps of an item, if it is one
unfoldable pub item_steps : Profile → List ℕ → Option (List ℕ)
item_steps profile item = item_by profile item (position is_colon item)

-- the steps of some items, in order, if each is one
abbrev pub all_steps : Profile → List (List ℕ) → Option (List ℕ)
all_steps profile [] = Some []
all_steps profile (item ∷ items) = option_and_then
    (λ steps. option_map (λ more. steps ++ more) (all_steps profile items))
    (item_steps profile item)

-- how many steps a run has at most
abbrev pub most_steps : ℕ
most_steps = 999999

-- the steps that a text lists for a machine of a profile, if it does, and no more than a run has
unfoldable pub listed_steps : Profile → List ℕ → Option (List ℕ)
listed_steps profile text = option_and_then
    (λ steps. if nat_le (length steps) most_steps then Some steps else None)
    (all_steps profile (numbers_of text))
