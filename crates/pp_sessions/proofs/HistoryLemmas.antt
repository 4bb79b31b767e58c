-- The timed events of a channel are its history.
use Rattle.std.proofs.Common.{◌≡◌, ℕ, Bool, eqb, List, [], ◌∷◌, ◌++◌, refl, arith}
use Rattle.std.specs.Prelude.{IsTrue}
use Rattle.std.proofs.lemmas.List.{map-append}
use Rattle.pp_numbers.specs.ChannelNo.{names_channel}
use Rattle.pp_channel.specs.declared.event.Event.{Event}
use Rattle.pp_machine.specs.Headline.{HoldsOnEachChannel, events_on, opening_history}
use Rattle.pp_machine.specs.MachineState.{MachineState, history_of}
use Rattle.pp_machine.specs.declared.trace.Trace.{Trace}
use Rattle.pp_sessions.specs.SessionsText.{channel_lines}
use Rattle.pp_sessions.specs.TimedEvents.{events_in, timed_events, timed_on}
use Rattle.pp_sessions.specs.declared.tally.TimedEvent.{TimedEvent}

traced : (c : ℕ) (trace : List Trace) → events_in (timed_on c trace) ≡ events_on c trace
traced c [] = refl
traced c (e ∷ trace) = grind (arith, eqb, traced c trace)

pub timed_is_history : (c : ℕ) (m : MachineState) → IsTrue (names_channel c) → HoldsOnEachChannel m → events_in (timed_events c m) ≡ history_of c m
timed_is_history c m names h = grind (arith, traced, map-append)

-- ---- a channel without history has no lines

none_mapped : (events : List TimedEvent) → events_in events ≡ [] → events ≡ []
none_mapped [] is = refl
none_mapped (e ∷ events) is = absurd (cc)

pub lines_of_none : (w : Bool) (m : MachineState) (c : ℕ) (h : List Event) → h ≡ [] → h ≡ opening_history c m ++ events_on c m.trace → channel_lines w m c ≡ []
lines_of_none w m c h none is = grind (arith, none_mapped, map-append, traced)
