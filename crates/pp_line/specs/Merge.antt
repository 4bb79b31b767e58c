-- What logs say of the histories of the channels.
use Rattle.std.specs.Prelude.{◌≡◌, ℕ, ◌<◌, ◌≤◌, ◌⊎◌, ◌==◌, ◌&&◌, Bool, List, [], length, All, count_by, take, slice_get, slice_index_or, slice_set, Some}
use Rattle.pp_line.specs.Types.{Entry, Event, Seen}
use Rattle.pp_channel.specs.Answer.{flags_of}
use Rattle.pp_numbers.specs.ChannelNo.{channel_index}
use Rattle.pp_channel.specs.History.{AreHistories, history_on}
use Rattle.pp_channel.specs.Law.{IsPrefix}
use Rattle.pp_line.specs.LineLog.{is_event, seen_on}

-- An event in a log is the one at its number of h; a look shows the flags after that many events.
abbrev pub IsTrueAt : List Event → ℕ → Seen → Type 0
IsTrueAt h number (Seen.Did e) = slice_get h number ≡ Some e
IsTrueAt h number (Seen.Saw f) = (number ≤ length h) × (flags_of (take number h) ≡ f)

abbrev pub IsTrueOf : List (List Event) → Entry → Type 0
IsTrueOf histories entry = IsTrueAt (history_on entry.channel histories) entry.number entry.what

-- whether an entry records the event of channel c with this number
abbrev pub logs_event : ℕ → ℕ → Entry → Bool
logs_event c number entry = is_event entry.what && (entry.channel == c) && (entry.number == number)

-- how often a log records that event
abbrev pub times_logged : ℕ → ℕ → List Entry → ℕ
times_logged c number log = count_by (logs_event c number) log

-- A log, or several end to end, merges to the histories over the opening histories if, for each
-- channel, it records each event after the opening ones once, at its number, and no other; the
-- history begins with the opening one; and every entry is true of the histories.
pub record Merges (opening : ℕ → List Event) (histories : List (List Event)) (log : List Entry)
    : Type 0 where
  pub once : (c number : ℕ) → length (opening c) ≤ number → number < length (history_on c histories)
      → times_logged c number log ≡ 1
  pub no_other : (c number : ℕ) → (number < length (opening c))
      ⊎ (length (history_on c histories) ≤ number) → times_logged c number log ≡ 0
  pub begins : (c : ℕ) → IsPrefix (opening c) (history_on c histories)
  pub entries_true : All (IsTrueOf histories) log

-- A log of opening histories: it has each of their events once, no other, and is true of them.
pub record IsOpeningLog (opening : ℕ → List Event) (log : List Entry) : Type 0 where
  pub once : (c number : ℕ) → number < length (opening c) → times_logged c number log ≡ 1
  pub no_other : (c number : ℕ) → length (opening c) ≤ number → times_logged c number log ≡ 0
  pub entries_true : All (λ entry. IsTrueAt (opening entry.channel) entry.number entry.what) log

-- no channel has an opening history
abbrev pub no_opening : ℕ → List Event
no_opening c = []

-- The log records these histories whole, and their lengths are the numbers seen.
pub record IsRecordedBy (log : List Entry) (seen : List ℕ) (histories : List (List Event)) : Type 0
  where
    pub sound : AreHistories histories
    pub merged : Merges no_opening histories log
    pub counted : (c : ℕ) → seen_on c seen ≡ length (history_on c histories)

-- the histories of all channels in order, with the event of an entry put at its number in that of
-- its channel (only private contracts cite this)
abbrev pub with_recorded : List (List Event) → ℕ → ℕ → Seen → List (List Event)
with_recorded histories place number (Seen.Did e) =
    slice_set histories place (slice_set (slice_index_or histories place []) number e)
with_recorded histories place number (Seen.Saw f) = histories

abbrev pub with_entry : List (List Event) → Entry → List (List Event)
with_entry histories entry =
    with_recorded histories (channel_index entry.channel) entry.number entry.what
