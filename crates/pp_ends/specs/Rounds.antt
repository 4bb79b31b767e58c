-- How a repetition is found, in rounds of the barrel. (Private contracts alone cite this.)
use Rattle.std.specs.Prelude.{ℕ, ◌+◌, ◌*◌, ◌<◌, ◌≤◌, Option, None, Some}
use Rattle.pp_machine.specs.MachineState.{MachineState}
use Rattle.pp_numbers.specs.Profile.{processors_in}
use Rattle.pp_ends.specs.Ending.{StandAlike, after_turns}

-- a machine after this many rounds
abbrev pub after_rounds : ℕ → MachineState → MachineState
after_rounds rounds m = after_turns (rounds * processors_in m.profile) m

abbrev pub AreAlikeAfter : ℕ → ℕ → MachineState → Type 0
AreAlikeAfter one other m = StandAlike (after_rounds one m) (after_rounds other m)

-- after how many rounds, from the end of a run on, the machine first stands again as at the end
pub record IsPeriod (period rounds : ℕ) (m : MachineState) : Type 0 where
  pub some : 1 ≤ period
  pub most : period ≤ rounds
  pub alike : AreAlikeAfter rounds (rounds + period) m
  pub least : (k : ℕ) → 1 ≤ k → k < period → ¬ AreAlikeAfter rounds (rounds + k) m

abbrev pub PeriodWithin : Option ℕ → ℕ → MachineState → Type 0
PeriodWithin (Some period) rounds m = IsPeriod period rounds m
PeriodWithin None rounds m =
    (k : ℕ) → 1 ≤ k → k ≤ rounds → ¬ AreAlikeAfter rounds (rounds + k) m

-- the first round after which the machine stands as a period later
pub record IsStart (start period last : ℕ) (m : MachineState) : Type 0 where
  pub within : start ≤ last
  pub alike : AreAlikeAfter start (start + period) m
  pub first : (k : ℕ) → k < start → ¬ AreAlikeAfter k (k + period) m

abbrev pub StartWithin : Option ℕ → ℕ → ℕ → MachineState → Type 0
StartWithin (Some start) period last m = IsStart start period last m
StartWithin None period last m = (k : ℕ) → k ≤ last → ¬ AreAlikeAfter k (k + period) m
