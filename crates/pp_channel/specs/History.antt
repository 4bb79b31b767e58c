-- The history of a channel, the list of its events: which are lawful, and what one says of it now.
-- (Manual 60100000, data channels: active or inactive, full or empty. Words pass while a channel is
-- active, function codes go out while it is inactive.)
use Rattle.std.specs.Prelude.{◌≡◌, ℕ, ◌+◌, ◌^◌, ◌<◌, Bool, true, false, ◌&&◌, ◌==◌, List, ◌∷◌, ◌++◌, length, map, All, Option, Some, None, is_some, unwrap_or, if◌then◌else◌, option_to_list, filter_map, flat_map, [], slice_index_or}
use Rattle.std.specs.List.{last_or, after_last}
use Rattle.pp_channel.specs.Session.{Session, body, puts, takes}
use Rattle.pp_numbers.specs.ChannelNo.{channel_count, channel_index}
use Rattle.pp_channel.specs.declared.event.Event.{Event}

-- an idle stretch: only function codes
abbrev pub idle_stretch : List ℕ → List Event
idle_stretch codes = map (λ code. Event.Function code) codes

-- a whole session, which a Disconnect ends, and the idle stretch after it
abbrev pub whole_session : Session × List ℕ → List Event
whole_session (session, codes) = body session ++ Event.Disconnect ∷ idle_stretch codes

-- A channel's course: an idle stretch, whole sessions with one after each, perhaps an open session.
pub record Course : Type 0 where
  pub first_stretch : List ℕ
  pub whole_sessions : List (Session × List ℕ)
  pub open_session : Option Session

abbrev pub events_of : Course → List Event
events_of c = idle_stretch c.first_stretch ++ flat_map whole_session c.whole_sessions
    ++ flat_map body (option_to_list c.open_session)

-- A history is lawful if there is a course whose events it is.
abbrev pub IsLawful : List Event → Type 0
IsLawful h = (course : Course) × (events_of course ≡ h)

-- what Activate and Disconnect make of a channel: active or not
abbrev pub switches_to : Event → Option Bool
switches_to Event.Activate = Some true
switches_to Event.Disconnect = Some false
switches_to _ = None

-- A channel is active if the last of Activate and Disconnect in its history is Activate.
abbrev pub active : List Event → Bool
active h = unwrap_or (last_or None (filter_map switches_to h)) false

-- what came after the last of Activate and Disconnect
abbrev pub last_stretch : List Event → List Event
last_stretch h = after_last (λ e. is_some (switches_to e)) h

-- A channel is full if its history ends in an open session with one more put than takes.
abbrev pub full : List Event → Bool
full h = active h && (length (puts (last_stretch h)) == length (takes (last_stretch h)) + 1)

-- The word that waits in the register of a full channel: the last word put.
abbrev pub waiting : List Event → Option ℕ
waiting h = if full h then last_or None (puts (last_stretch h)) else None

-- the word of an event, if it has one, is a word of 12 bits
abbrev pub HasTwelveBitWord : Event → Type 0
HasTwelveBitWord (Event.Put w) = w < 2 ^ 12
HasTwelveBitWord (Event.Take w) = w < 2 ^ 12
HasTwelveBitWord (Event.Function w) = w < 2 ^ 12
HasTwelveBitWord _ = Unit {0}

abbrev pub HasTwelveBitWords : List Event → Type 0
HasTwelveBitWords h = All HasTwelveBitWord h

-- the history of channel c, of the histories of all channels in order
abbrev pub history_on : ℕ → List (List Event) → List Event
history_on c histories = slice_index_or histories (channel_index c) []

-- A history for each channel, in their order: each is lawful, and its words have 12 bits.
pub record AreHistories (histories : List (List Event)) : Type 0 where
  pub each_channel : length histories ≡ channel_count
  pub lawful : All IsLawful histories
  pub twelve_bits : All HasTwelveBitWords histories
