-- Dead start: processors that wait for their programs, each on the channel of its own number.
-- (Manual 60100000, part on dead start: each of these processors is set to an input to its memory
-- from place 0000 on, from the channel of its own number, which is active and empty.)
use Rattle.std.specs.Prelude.{◌≡◌, ℕ, ◌≤◌, ◌&&◌, Bool, false, true, IsTrue, List, [], ◌∷◌, map, if◌then◌else◌, slice_index_or, slice_set}
use Rattle.std.specs.List.{range_with_len}
use Rattle.pp_numbers.specs.ChannelNo.{channel_count, channel_index, channel_number, names_channel}
use Rattle.pp_channel.specs.declared.event.Event.{Event}
use Rattle.pp_machine.specs.MachineState.{MachineState, processor_of, history_of}
use Rattle.pp_processor.specs.Processor.{Processor, waiting_on}
use Rattle.pp_numbers.specs.PpNo.{names_processor, processor_count, processor_index, processor_number}
use Rattle.pp_numbers.specs.Profile.{processors_in}
use Rattle.pp_numbers.specs.declared.profile.Profile.{Profile}

-- only processors that a machine of this profile has wait
abbrev pub WaitsWithin : Profile → List Bool → Type 0
WaitsWithin profile waiting =
    (place : ℕ) → processors_in profile ≤ place → slice_index_or waiting place false ≡ false

-- whether a number is that of a processor that is to wait
abbrev pub waits : List Bool → ℕ → Bool
waits waiting n = names_processor n && slice_index_or waiting (processor_index n) false

-- no turn is counted, and no channel has a history
pub record IsBeforeFirstTurn (m : MachineState) : Type 0 where
  pub turns : m.turns ≡ 0
  pub histories : (c : ℕ) → IsTrue (names_channel c) → history_of c m ≡ []

-- processor n, of a machine in which the processors wait whose numbers pass a test
abbrev pub processor_started : (ℕ → Bool) → MachineState → ℕ → Processor
processor_started waits m n = if waits n then waiting_on n (processor_of n m) else processor_of n m

-- the history of channel c: an Activate if the processor of this number waits
abbrev pub history_started : (ℕ → Bool) → MachineState → ℕ → List Event
history_started waits m c = if waits c then Event.Activate ∷ [] else history_of c m

-- all processors, all histories, and which channels are opened, each in order of place
unfoldable pub processors_started : (ℕ → Bool) → MachineState → List Processor
processors_started waits m = map (λ place. processor_started waits m (processor_number place))
    (range_with_len 0 processor_count)

unfoldable pub histories_started : (ℕ → Bool) → MachineState → List (List Event)
histories_started waits m =
    map (λ place. history_started waits m (channel_number place)) (range_with_len 0 channel_count)

unfoldable pub opened_where : (ℕ → Bool) → List Bool
opened_where waits = map (λ place. waits (channel_number place)) (range_with_len 0 channel_count)

-- A machine in which the processors wait whose numbers pass a test, each on the channel of its own
-- number, which is active and empty. Central memory, turns and trace stay.
abbrev pub started : (ℕ → Bool) → MachineState → MachineState
started waits m = record m {
  processors = processors_started waits m;
  histories = histories_started waits m;
  opened = opened_where waits;
}

-- a machine after dead start, given of each processor in the barrel's order whether it waits
abbrev pub dead_started : List Bool → MachineState → MachineState
dead_started waiting m = started (waits waiting) m

-- a machine in which processor n waits besides
abbrev pub with_waiting : ℕ → MachineState → MachineState
with_waiting n m = record m {
  processors = slice_set m.processors (processor_index n) (waiting_on n (processor_of n m));
  histories = slice_set m.histories (channel_index n) (Event.Activate ∷ []);
  opened = slice_set m.opened (channel_index n) true;
}
