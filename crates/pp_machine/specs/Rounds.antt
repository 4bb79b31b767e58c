-- Rounds of the barrel in which processors at rest are passed over: a step of theirs counts a turn,
-- and does nothing else. (Only private contracts cite this.)
use Rattle.std.specs.Prelude.{◌≡◌, ℕ, ◌*◌, ◌<◌, ◌≤◌, IsSome, List, slice_index, slice_index_or}
use Rattle.pp_machine.specs.MachineState.{MachineState}
use Rattle.pp_machine.specs.MachineStep.{step_event}
use Rattle.pp_processor.specs.Processor.{Processor, no_processor, IsAtRest}
use Rattle.pp_numbers.specs.PpNo.{processor_count}
use Rattle.pp_numbers.specs.Profile.{processor_in_turn, processors_in}
use Rattle.pp_machine.specs.Run.{run, barrel}
use Rattle.pp_numbers.specs.declared.profile.Profile.{Profile}

-- from one place of the barrel, or its end, to another all processors are at rest
pub record RestBetween (place running : ℕ) (processors : List Processor) : Type 0 where
  pub forward : place ≤ running
  pub within : running ≤ processor_count
  pub at_rest : (between : ℕ) → place ≤ between → between < running
      → IsAtRest (slice_index_or processors between no_processor)

-- a list that has for each place of the barrel, and for its end, one to which all are at rest
abbrev pub PassesOverRest : List ℕ → List Processor → Type 0
PassesOverRest next processors =
    (place : ℕ) → place ≤ processor_count → RestBetween place (slice_index next place) processors

-- the processors of `rounds` whole rounds of the barrel, in order
abbrev pub whole_rounds : Profile → ℕ → List ℕ
whole_rounds profile rounds = barrel profile (rounds * processors_in profile)

-- this turn of the barrel, one of so many, makes an event
abbrev pub IsEventAt : ℕ → MachineState → ℕ → Type 0
IsEventAt turns m turn = (turn < turns)
    × IsSome (step_event (processor_in_turn m.profile turn) (run (barrel m.profile turn) m))

-- a run of the barrel that was cut after `done` steps of `all`, at a step that makes an event
pub record IsCut (all done : ℕ) (old new : MachineState) : Type 0 where
  pub ran : new ≡ run (barrel old.profile done) old
  pub at_event : IsEventAt all old done
