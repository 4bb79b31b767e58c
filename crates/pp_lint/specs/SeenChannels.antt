-- The channels that instructions are for, in a table.
use Rattle.std.specs.Prelude.{◌≡◌, ℕ, ◌<◌, Bool, false, List, slice_index_or}
use Rattle.std.specs.List.{list_any}
use Rattle.pp_numbers.specs.declared.profile.Profile.{Profile}
use Rattle.pp_instructions.specs.declared.instruction.Instruction.{Instruction}
use Rattle.pp_lint.specs.ChannelUse.{is_for}

-- a table shows for each number (decimal) whether one of these instructions is for the channel of
-- that number
abbrev pub ShowsChannels : Profile → List Bool → List Instruction → Type 0
ShowsChannels profile table is = (c : ℕ) → c < 64
    → slice_index_or table c false ≡ list_any (λ i. is_for profile c i.word) is
