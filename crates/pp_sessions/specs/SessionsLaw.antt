-- What the lines of a channel say: its course's sessions, with the idle stretches between them.
use Rattle.std.specs.Prelude.{◌≡◌, ℕ, ◌+◌, Bool, true, false, List, [], ◌∷◌, ◌++◌, length, map, Some, if◌then◌else◌}
use Rattle.std.specs.List.{flat_map, last_or}
use Rattle.std.specs.Option.{option_map, option_to_list}
use Rattle.pp_channel.specs.History.{Course, idle_stretch}
use Rattle.pp_channel.specs.Session.{Session, body}
use Rattle.pp_channel.specs.declared.event.Event.{Event}
use Rattle.pp_channel.specs.declared.event.Event.TheVariants.{Disconnect}
use Rattle.pp_sessions.specs.declared.{tally.TimedEvent.TimedEvent, tally.Tally.Tally}

-- the events of a session, with the Disconnect that ended it if one did
abbrev pub session_events : Session → Bool → List Event
session_events session ended = body session ++ (if ended then Disconnect ∷ [] else [])

-- an idle stretch is one if it has a function code
abbrev pub idle_part : List ℕ → List (List Event)
idle_part [] = []
idle_part (code ∷ codes) = idle_stretch (code ∷ codes) ∷ []

-- a whole session, and the idle stretch after it
abbrev pub whole_parts : Session × List ℕ → List (List Event)
whole_parts (session, codes) = session_events session true ∷ idle_part codes

-- the stretches of a course, in order
abbrev pub stretches_of : Course → List (List Event)
stretches_of c = idle_part c.first_stretch ++ flat_map whole_parts c.whole_sessions
    ++ map (λ session. session_events session false) (option_to_list c.open_session)

-- what the line of a stretch says is a session: whether it ended, its words, the lone last word
pub record TellsSession (session : Session) (ended : Bool) (tally : Tally) : Type 0 where
  pub is_session : tally.is_session ≡ true
  pub end : tally.has_ended ≡ ended
  pub put : tally.put ≡ length session.passed + length (option_to_list session.lone)
  pub taken : tally.taken ≡ length session.passed
  pub untaken : tally.untaken ≡ session.lone

-- the line of a stretch says when its first event was, and when its last
pub record TellsMoments (first : TimedEvent) (others : List TimedEvent) (tally : Tally)
    : Type 0 where
  pub from : tally.from ≡ first.moment
  pub to : Some tally.to ≡ option_map (λ (e : TimedEvent). e.moment) (last_or (Some first) others)

-- or it is an idle stretch of these function codes
pub record TellsIdle (codes : List ℕ) (tally : Tally) : Type 0 where
  pub is_idle : tally.is_session ≡ false
  pub functions : tally.events ≡ length codes
