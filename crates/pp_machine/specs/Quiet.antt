-- Quiet steps: they make no event and use no central word, so they change nothing but their own
-- processor. If all steps of some rounds of the barrel are quiet, those of different processors can
-- change places. (Only private contracts cite this.)
use Rattle.std.specs.Prelude.{◌≡◌, ℕ, zero, suc, ◌<◌, ◌≤◌, Bool, true, false, IsTrue, List, is_none, length, slice_index_or}
use Rattle.pp_channel.specs.Answer.{event_of}
use Rattle.pp_machine.specs.MachineState.{MachineState, history_of}
use Rattle.pp_machine.specs.MachineStep.{answer_to}
use Rattle.pp_processor.specs.NeedAndEffect.{need, processor_after}
use Rattle.pp_processor.specs.Processor.{Processor, no_processor}
use Rattle.pp_processor.specs.declared.need.Need.{Need}
use Rattle.pp_processor.specs.declared.need.Need.TheVariants.{Nothing, Local, Channel}

-- whether a step with this need is taken as quiet: it needs nothing from outside, or its operation
-- on a channel only looks or is held. A central read is not, though it changes nothing else.
abbrev pub is_quiet : Need → MachineState → Bool
is_quiet Nothing m = true
is_quiet Local m = true
is_quiet (Channel c operation) m = is_none (event_of operation (history_of c m))
is_quiet _ m = false

-- a processor after its next step, if the channels and central memory are those of a machine
abbrev pub step_beside : MachineState → Processor → Processor
step_beside m pp = processor_after pp (answer_to (need pp) m)

-- and after `steps` of them
unfoldable pub steps_beside : ℕ → MachineState → Processor → Processor
steps_beside zero m pp = pp
steps_beside (suc steps) m pp = step_beside m (steps_beside steps m pp)

-- a processor went `steps` steps ahead, each of them quiet
pub record IsAhead (steps : ℕ) (m : MachineState) (old new : Processor) : Type 0 where
  pub quiet : (j : ℕ) → j < steps → IsTrue (is_quiet (need (steps_beside j m old)) m)
  pub after : new ≡ steps_beside steps m old

-- the processors of a round from a place on went `steps` quiet steps ahead; all others stayed
pub record AreAhead (steps round place : ℕ) (m : MachineState) (old new : List Processor) : Type 0
  where
    pub as_many : length new ≡ length old
    pub before : (k : ℕ) → k < place → slice_index_or new k no_processor
        ≡ slice_index_or old k no_processor
    pub behind : (k : ℕ) → round ≤ k → slice_index_or new k no_processor
        ≡ slice_index_or old k no_processor
    pub ahead : (k : ℕ) → place ≤ k → k < round
        → IsAhead steps m (slice_index_or old k no_processor) (slice_index_or new k no_processor)
