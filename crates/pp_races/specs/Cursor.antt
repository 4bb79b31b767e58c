-- Where a processor is in the events of a channel. (Private contracts alone cite this.)
use Rattle.std.specs.Prelude.{◌≡◌, ℕ, ◌<◌, ◌≤◌, Bool, true, false, List, drop, length, slice_index_or}
use Rattle.pp_channel.specs.declared.flags.Flags.{Flags}
use Rattle.pp_races.specs.ByFlags.{at, number_of}
use Rattle.pp_races.specs.declared.{by_flags.ByFlags.ByFlags, cursor.Cursor.Cursor, missed.Missed.Missed}

-- no event between two places found flags that pass a test
abbrev pub NoneFinds : (Flags → Bool) → List Missed → ℕ → ℕ → Type 0
NoneFinds test events from to = (k : ℕ) (d : Missed) → from ≤ k → k < to → k < length events
    → test (slice_index_or events k d).found ≡ false

-- a place is the first from another on, whose event found such flags, or at which there is none
pub record IsFirst (test : Flags → Bool) (events : List Missed) (from place : ℕ) : Type 0 where
  pub further : from ≤ place
  pub within : from ≤ length events → place ≤ length events
  pub none : NoneFinds test events from place
  pub finds : (d : Missed) → place < length events
      → test (slice_index_or events place d).found ≡ true

-- the events missed are those from a place on; and before the place that is kept for a set of flags
-- none of them found one of the set
pub record IsCursor (events missed : List Missed) (cursor : Cursor) : Type 0 where
  pub within : cursor.from ≤ length events
  pub missed_are : drop cursor.from events ≡ missed
  pub searched_within : (set : ByFlags Bool)
      → slice_index_or cursor.searched (number_of set) 0 ≤ length events
  pub searched : (set : ByFlags Bool)
      → NoneFinds (at set) events cursor.from (slice_index_or cursor.searched (number_of set) 0)
