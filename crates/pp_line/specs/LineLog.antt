-- The log that a line writes of what it did and saw, and how the numbers along it go.
use Rattle.std.specs.Prelude.{ℕ, ◌-◌, ◌==◌, ◌&&◌, Bool, true, false, not, List, [], ◌∷◌, ◌++◌, length, slice_set, Option, Some, None, if◌then◌else◌, ◌≡◌, ◌+◌, ◌≤◌, All, AllPairs, slice_index}
use Rattle.std.specs.List.{last_or}
use Rattle.pp_numbers.specs.ChannelNo.{channel_index}
use Rattle.pp_line.specs.Types.{Entry, Event, Flags, Seen}

-- A log: its entries in order, how many more it has room for, and whether its last entry is kept
-- when a look at the same channel follows.
pub record LogState : Type 0 where
  pub entries : List Entry
  pub room : ℕ
  pub kept : Bool

abbrev pub empty_log : ℕ → LogState
empty_log room = record { entries = []; room = room; kept = true }

abbrev pub event_entry : ℕ → ℕ → Event → Entry
event_entry c number e = record { channel = c; number = number; what = Seen.Did e }

abbrev pub look_entry : ℕ → ℕ → Flags → Entry
look_entry c number f = record { channel = c; number = number; what = Seen.Saw f }

abbrev pub appended : LogState → Entry → LogState
appended log entry =
    record { entries = log.entries ++ entry ∷ []; room = log.room - 1; kept = false }

-- whether an entry is an event; if not, it is a look
abbrev pub is_event : Seen → Bool
is_event (Seen.Did e) = true
is_event (Seen.Saw f) = false

-- whether the entry, if there is one, is a look at channel c
abbrev pub is_look_at : ℕ → Option Entry → Bool
is_look_at c None = false
is_look_at c (Some entry) = not (is_event entry.what) && (entry.channel == c)

-- whether the log ends in a look at channel c that is not kept
abbrev pub ends_in_look_at : ℕ → LogState → Bool
ends_in_look_at c log = not log.kept && is_look_at c (last_or None log.entries)

-- a look takes the place of such a last look; otherwise it is added at the end
abbrev pub looked : LogState → Entry → LogState
looked log entry = if ends_in_look_at entry.channel log
    then record log { entries = slice_set log.entries (length log.entries - 1) entry; kept = false }
    else appended log entry

-- The log after an operation on channel c saw or did this: an event gets an entry of its own, a
-- look may take the place of another.
abbrev pub with_seen : LogState → ℕ → ℕ → Option Seen → LogState
with_seen log c number None = log
with_seen log c number (Some (Seen.Did e)) = appended log (event_entry c number e)
with_seen log c number (Some (Seen.Saw f)) = looked log (look_entry c number f)

-- how many events of the channel are known after an entry with this number
abbrev pub known_after : Seen → ℕ → ℕ
known_after (Seen.Did e) number = number + 1
known_after (Seen.Saw f) number = number

-- a later entry on the same channel has at least the number, and a greater one after an event
abbrev pub IsFollowedBy : Entry → Entry → Type 0
IsFollowedBy earlier later =
    earlier.channel ≡ later.channel → known_after earlier.what earlier.number ≤ later.number

-- A log is monotone if that holds of each entry and each later one: no number falls.
abbrev pub IsMonotone : List Entry → Type 0
IsMonotone log = AllPairs IsFollowedBy log

-- how many events of channel c have been seen, of the numbers seen on all channels in order
abbrev pub seen_on : ℕ → List ℕ → ℕ
seen_on c seen = slice_index seen (channel_index c)

-- every entry lies within the numbers seen: an event below, a look at most
abbrev pub IsWithin : List ℕ → List Entry → Type 0
IsWithin seen log =
    All (λ entry. known_after entry.what entry.number ≤ seen_on entry.channel seen) log
