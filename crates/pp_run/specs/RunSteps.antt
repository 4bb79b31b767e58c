-- The steps of a run.
use Rattle.std.specs.Prelude.{◌≡◌, ℕ, ◌+◌, ◌<◌, ◌⊎◌, ◌==◌, Bool, List, [], ◌∷◌, length, map, slice_index, take}
use Rattle.std.specs.List.{filter}
use Rattle.pp_machine.specs.MachineState.{MachineState}
use Rattle.pp_machine.specs.MachineStep.{step_outcome, stepped}
use Rattle.pp_machine.specs.Run.{IsCutAtEvent, run}
use Rattle.pp_processor.specs.declared.outcome.Outcome.{Outcome}

-- a step: its processor, and the machine before it
pub record RunStep : Type 0 where
  pub processor : ℕ
  pub before : MachineState

abbrev pub run_steps : List ℕ → MachineState → List RunStep
run_steps [] m = []
run_steps (n ∷ ns) m = record { processor = n; before = m } ∷ run_steps ns (stepped n m)

-- whether a step is processor n's
abbrev pub is_of : ℕ → RunStep → Bool
is_of n step = step.processor == n

-- something of each step of processor n
abbrev pub seen_of : {X : Type 0} → (RunStep → X) → ℕ → List RunStep → List X
seen_of of n steps = map of (filter (is_of n) steps)

-- what a step did to its processor
abbrev pub outcome_of : RunStep → Outcome
outcome_of step = step_outcome step.processor step.before

-- a step is processor n's, had this outcome and led to this machine
pub record IsMade (step : RunStep) (n : ℕ) (outcome : Outcome) (after : MachineState) : Type 0 where
  pub processor_is : step.processor ≡ n
  pub outcome_is : outcome ≡ outcome_of step
  pub after_is : after ≡ stepped step.processor step.before

-- the step of a list after `done` others
abbrev pub next_step : List ℕ → MachineState → ℕ → RunStep
next_step ns m done = record { processor = slice_index ns done; before = run (take done ns) m }

-- A run of some steps is cut after `done` of them, when something had to be kept: before a step
-- that makes an event, or after a step that is kept itself.
abbrev pub IsCutAt : (RunStep → Type 0) → List ℕ → MachineState → ℕ → Type 0
IsCutAt Keeps ns m done = IsCutAtEvent ns m done
    ⊎ ((last : ℕ) × (done ≡ last + 1) × (last < length ns) × Keeps (next_step ns m last))
