-- What holds of each channel of a machine after any list of steps, and of every machine.
use Rattle.std.specs.Prelude.{◌≡◌, ℕ, IsTrue, ◌==◌, List, [], ◌∷◌, ◌++◌, Some, None, if◌then◌else◌, filter_map, length}
use Rattle.pp_numbers.specs.ChannelNo.{names_channel, channel_count}
use Rattle.pp_channel.specs.History.{IsLawful}
use Rattle.pp_channel.specs.Law.{KeepsLaw}
use Rattle.pp_channel.specs.declared.event.Event.{Event}
use Rattle.pp_machine.specs.MachineState.{MachineState, history_of, is_opened}
use Rattle.pp_machine.specs.Central.{IsCentral}
use Rattle.pp_numbers.specs.PpNo.{processor_count}
use Rattle.pp_machine.specs.declared.trace.Trace.{Trace}

-- the events of a trace on channel c, in order
abbrev pub events_on : ℕ → List Trace → List Event
events_on c trace =
    filter_map (λ entry. if entry.channel == c then Some entry.event else None) trace

-- what had happened on channel c before the first step: an Activate if dead start opened it
abbrev pub opening_history : ℕ → MachineState → List Event
opening_history c m = if is_opened c m then Event.Activate ∷ [] else []

-- the history of a channel is its opening history and then the events of the trace on it; it is
-- lawful, and keeps the law of sessions
pub record HoldsOnChannel (opening events history : List Event) : Type 0 where
  pub traced : history ≡ opening ++ events
  pub lawful : IsLawful history
  pub law : KeepsLaw history

-- that holds of every channel
abbrev pub HoldsOnEachChannel : MachineState → Type 0
HoldsOnEachChannel m = (c : ℕ) → IsTrue (names_channel c)
    → HoldsOnChannel (opening_history c m) (events_on c m.trace) (history_of c m)

-- all processors and channels are there, it is known of each channel whether dead start opened it,
-- the central words are a central memory, and the headline holds of each channel
pub record IsMachine (m : MachineState) : Type 0 where
  pub processors : length m.processors ≡ processor_count
  pub channels : length m.histories ≡ channel_count
  pub opened : length m.opened ≡ channel_count
  pub central : IsCentral m.central
  pub headline : HoldsOnEachChannel m
