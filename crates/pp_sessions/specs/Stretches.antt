-- The stretches of a channel: its sessions, and the idle stretches between them.
use Rattle.std.specs.Prelude.{ℕ, Bool, true, false, ◌||◌, List, [], ◌∷◌, Option, None, Some, fold, length, if◌then◌else◌}
use Rattle.std.specs.List.{after_last, filter_map, last_or, onto_first}
use Rattle.pp_channel.specs.Session.{puts, takes}
use Rattle.pp_channel.specs.declared.event.Event.{Event}
use Rattle.pp_channel.specs.declared.event.Event.TheVariants.{Activate, Disconnect, Function, Put, Take}
use Rattle.pp_sessions.specs.TimedEvents.{events_in}
use Rattle.pp_sessions.specs.declared.{tally.TimedEvent.TimedEvent, tally.Tally.Tally}

abbrev pub begins_session : Event → Bool
begins_session Activate = true
begins_session event = false

abbrev pub ends_session : Event → Bool
ends_session Disconnect = true
ends_session event = false

-- whether a stretch is over between two events: Activate begins a session, Disconnect ends one
abbrev pub is_over : Event → Event → Bool
is_over event next = ends_session event || begins_session next

-- a list, cut between any two neighbours that pass a test
abbrev pub cut_between : {X : Type 0} → (X → X → Bool) → List X → List (List X)
cut_between test [] = []
cut_between test (x ∷ []) = (x ∷ []) ∷ []
cut_between test (x ∷ next ∷ xs) = if test x next then (x ∷ []) ∷ cut_between test (next ∷ xs)
    else onto_first x (cut_between test (next ∷ xs))

-- whether two events that follow one another are of two stretches
abbrev pub are_parted : TimedEvent → TimedEvent → Bool
are_parted e next = is_over e.event next.event

-- the stretches of a channel's events, in order
abbrev pub stretches : List TimedEvent → List (List TimedEvent)
stretches events = cut_between are_parted events

-- a stretch is a session if its first event is Activate
abbrev pub is_session : List TimedEvent → Bool
is_session [] = false
is_session (first ∷ others) = begins_session first.event

abbrev pub is_take : Event → Bool
is_take (Take w) = true
is_take event = false

-- the word that was put and not taken: the last word put after the last Take
abbrev pub untaken : List Event → Option ℕ
untaken events = last_or None (puts (after_last is_take events))

-- the word that an event puts, or the function code that it sends
abbrev pub word_of : Event → Option ℕ
word_of (Put w) = Some w
word_of (Function w) = Some w
word_of event = None

-- the words put in a session, or the function codes of an idle stretch
abbrev pub words_in : List TimedEvent → List ℕ
words_in events = filter_map (λ (e : TimedEvent). word_of e.event) events

-- what the line of a stretch says of it, by its first event and the others
unfoldable pub tally_of : TimedEvent → List TimedEvent → Tally
tally_of first others =
    let last = fold (λ before event. event) first others in
    let events = events_in (first ∷ others) in
    record {
      is_session = begins_session first.event;
      has_ended = ends_session last.event;
      from = first.moment;
      to = last.moment;
      events = length events;
      put = length (puts events);
      taken = length (takes events);
      untaken = untaken events;
    }
