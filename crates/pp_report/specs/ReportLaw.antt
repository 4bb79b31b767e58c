-- What the text of a report says of it: two reports with one text agree on all that it shows.
use Rattle.std.specs.Prelude.{◌≡◌, ℕ, ◌<◌, ◌^◌, List, Bool, All, Option, Some, None, IfSome, IsTrue, slice_get, option_map, if◌then◌else◌}
use Rattle.std.specs.List.{enumerate_from, filter_map}
use Rattle.pp_numbers.specs.ChannelNo.{names_channel}
use Rattle.pp_channel.specs.History.{HasTwelveBitWord, history_on}
use Rattle.pp_report.specs.Types.{End, Event, Report, Worker}
use Rattle.pp_numbers.specs.PpNo.{names_processor, processor_index, processor_number, is_named}
use Rattle.pp_report.specs.PrintedReport.{author_place}
use Rattle.pp_text.specs.TextLaw.{HistoryFits, ShowSameChannel}

-- an event as a report's text shows it: its number in the history, its author, and what happened
pub record PrintedEvent : Type 0 where
  pub number : ℕ
  pub author : ℕ
  pub event : Event

-- by the place of its author; an opening event has none, and is not shown
abbrev pub printed_by : ℕ → Event → Option ℕ → Option PrintedEvent
printed_by number event None = None
printed_by number event (Some place) =
    Some (record { number = number; author = processor_number place; event = event })

-- the events of channel c that the text shows, in order
abbrev pub printed_events : {Z : Type 0} → ℕ → List (Worker Z) → List Event → List PrintedEvent
printed_events {Z} c workers history = filter_map
    (λ ((number, event) : ℕ × Event). printed_by number event (author_place c workers number))
    (enumerate_from 0 history)

-- what a worker's line shows: P, A and the end
pub record ShownEnd : Type 0 where
  pub p : ℕ
  pub a : ℕ
  pub finish : End

abbrev pub shown_end : {Z : Type 0} → Worker Z → ShownEnd
shown_end worker = record { p = worker.pp.p; a = worker.pp.a; finish = worker.finish }

-- an event fits its line
pub record FitsItsLine (printed : PrintedEvent) : Type 0 where
  pub number : printed.number < 2 ^ 64
  pub author : IsTrue (names_processor printed.author)
  pub word : HasTwelveBitWord printed.event

-- so does a worker
pub record FitsItsEnd (shown : ShownEnd) : Type 0 where
  pub p : shown.p < 2 ^ 12
  pub a : shown.a < 2 ^ 18

-- what is shown of the worker of processor n
abbrev pub end_of : {Z : Type 0} → ℕ → Report Z → Option ShownEnd
end_of n report = option_map shown_end (slice_get report.ends.items (processor_index n))

-- the events that the report has of channel c
abbrev pub printed_on : {Z : Type 0} → ℕ → Report Z → List PrintedEvent
printed_on c report = printed_events c report.ends.items (history_on c report.channels)

-- a report fits its text
pub record FitsItsReport {Z : Type 0} (named : List Bool) (report : Report Z) : Type 0 where
  pub events : (c : ℕ) → IsTrue (names_channel c) → All FitsItsLine (printed_on c report)
  pub workers : (n : ℕ) → IsTrue (is_named named n) → IfSome (end_of n report) FitsItsEnd
  pub channels : (c : ℕ) → IsTrue (names_channel c) → HistoryFits (history_on c report.channels)

-- what is shown of processor n: nothing if it is not named
abbrev pub shown_of : {Z : Type 0} → List Bool → ℕ → Report Z → Option ShownEnd
shown_of named n report = if is_named named n then end_of n report else None

-- The same events on each channel, with number and author; the same processors shown, with P, A and
-- end; and of each channel whether anything has happened, whether it is active, and the word that
-- waits.
pub record AgreeOnReport {Y Z : Type 0} (named others : List Bool) (one : Report Y)
    (other : Report Z) : Type 0 where
  pub events : (c : ℕ) → IsTrue (names_channel c) → printed_on c one ≡ printed_on c other
  pub workers : (n : ℕ) → shown_of named n one ≡ shown_of others n other
  pub channels : (c : ℕ) → IsTrue (names_channel c)
      → ShowSameChannel (history_on c one.channels) (history_on c other.channels)
