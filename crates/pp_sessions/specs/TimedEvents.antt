-- The events of a channel, each with the moment at which it happened.
use Rattle.std.specs.Prelude.{ℕ, ◌==◌, List, [], ◌∷◌, ◌++◌, map, Some, None, if◌then◌else◌}
use Rattle.std.specs.List.{filter_map}
use Rattle.pp_channel.specs.declared.event.Event.{Event}
use Rattle.pp_channel.specs.declared.event.Event.TheVariants.{Activate}
use Rattle.pp_machine.specs.MachineState.{MachineState, is_opened}
use Rattle.pp_machine.specs.declared.trace.Trace.{Trace}
use Rattle.pp_sessions.specs.declared.tally.Moment.TheVariants.{DeadStart, Turn}
use Rattle.pp_sessions.specs.declared.tally.TimedEvent.{TimedEvent}

-- what happened on channel c before the first turn: an Activate, if dead start opened it
abbrev pub opening_events : ℕ → MachineState → List TimedEvent
opening_events c m =
    if is_opened c m then (record { moment = DeadStart; event = Activate }) ∷ [] else []

-- the event of a trace's entry, in its turn
abbrev pub timed_event : Trace → TimedEvent
timed_event entry = record { moment = Turn entry.turn; event = entry.event }

-- the events of a trace on channel c, in order
abbrev pub timed_on : ℕ → List Trace → List TimedEvent
timed_on c trace =
    filter_map (λ entry. if entry.channel == c then Some (timed_event entry) else None) trace

-- all events of channel c, in order
abbrev pub timed_events : ℕ → MachineState → List TimedEvent
timed_events c m = opening_events c m ++ timed_on c m.trace

-- the events alone
abbrev pub events_in : List TimedEvent → List Event
events_in events = map (λ (e : TimedEvent). e.event) events
