-- Lists of processors, like `0,1,11`.
use Rattle.std.specs.Prelude.{ℕ, Bool, List}
use Rattle.pp_numbers.specs.PpNo.{is_named, processor_count}
use Rattle.pp_numbers.specs.Profile.{has_processor}
use Rattle.pp_numbers.specs.declared.profile.Profile.{Profile}
use Rattle.pp_command.specs.NumberList.{AreFlagged}

-- a text lists these processors of a profile, by flags in the barrel's order
abbrev pub AreProcessorsListed : Profile → List ℕ → List Bool → Type 0
AreProcessorsListed profile = AreFlagged (has_processor profile) processor_count is_named
