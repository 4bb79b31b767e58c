-- Lists of steps. (Thornton, Design of a Computer: the processors take turns in a barrel.)
use Rattle.std.specs.Prelude.{◌≡◌, ℕ, zero, suc, ◌<◌, List, [], ◌∷◌, ◌++◌, IfErr, IsSome, OnOk, Result, fold, length, slice_index, take}
use Rattle.pp_machine.specs.Headline.{HoldsOnEachChannel}
use Rattle.pp_machine.specs.MachineState.{MachineState}
use Rattle.pp_machine.specs.MachineStep.{step_event, stepped}
use Rattle.pp_numbers.specs.Profile.{processor_in_turn}
use Rattle.pp_machine.specs.declared.cut.Cut.{Cut}
use Rattle.pp_numbers.specs.declared.profile.Profile.{Profile}

-- a machine after one step of each processor of a list, in order
abbrev pub run : List ℕ → MachineState → MachineState
run ns m = fold (λ k n. stepped n k) m ns

-- the processors of the first turns of the barrel of a profile, in order
abbrev pub barrel : Profile → ℕ → List ℕ
barrel profile zero = []
barrel profile (suc turn) = barrel profile turn ++ processor_in_turn profile turn ∷ []

-- THE ORDER OF A RUN of so many steps: the processors of a list come first, each for a step, and
-- then those of the barrel, from its first turn on
unfoldable pub run_order : List ℕ → Profile → ℕ → List ℕ
run_order first profile steps = take steps (first ++ barrel profile steps)

-- a run of these steps, or of as many of the first as its cut says; either way the headline holds
pub record IsRunOf {X : Type 0} (steps : List ℕ) (answer : Result X Cut) (old new : MachineState)
    : Type 0 where
  pub ran : OnOk answer (new ≡ run steps old)
  pub cut : IfErr answer (λ c. new ≡ run (take c.done steps) old)
  pub headline : HoldsOnEachChannel new

-- a run of these steps was cut after `done` of them, before one that makes an event
abbrev pub IsCutAtEvent : List ℕ → MachineState → ℕ → Type 0
IsCutAtEvent steps m done = (done < length steps)
    × IsSome (step_event (slice_index steps done) (run (take done steps) m))
