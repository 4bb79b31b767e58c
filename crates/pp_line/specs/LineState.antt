-- A line as contracts see it: what it holds, what it knows of histories, and how calls change it.
use Rattle.std.specs.Prelude.{flat_map, ◌≡◌, ◌≢◌, ℕ, ◌+◌, ◌<◌, ◌≤◌, ◌==◌, List, [], ◌∷◌, ◌++◌, length, map, take, All, slice_set, true, false, is_some, if◌then◌else◌, fold, option_map, option_to_list}
use Rattle.std.specs.declared.vec.Vec.{Vec}
use Rattle.atomic_table.specs.Seated.{TableId}
use Rattle.pp_line.specs.Types.{Access, ChanOp, Entry, Event, LineView, Numbered, Reply}
use Rattle.pp_channel.specs.Answer.{IsAnswer, IsReady, event_answered, flags_of, flags_shown, only_looks, seen_answered}
use Rattle.pp_numbers.specs.ChannelNo.{channel_index}
use Rattle.pp_line.specs.ChannelWord.{number_in, greatest_number}
use Rattle.pp_channel.specs.Law.{KeepsLaw}
use Rattle.pp_line.specs.LineLog.{LogState, empty_log, event_entry, with_seen, seen_on}
use Rattle.pp_line.specs.LineView.{child_view, joined_view, with_unrecorded_load, finds, look_by, Knows}
use Rattle.pp_line.specs.Merge.{Merges, no_opening}
use Rattle.pp_channel.specs.History.{history_on}
use Rattle.pp_line.specs.Order.{extended, IsTotalOrderOf, ExtendsEach, IsDrawnFrom, entries_among, on_channels, FindsWords, AreMade}

-- Lines that were split from one another are a family, and share one table of words. A line has its
-- log; its view, which is what it knows (the fields of LineView say what); and that table.
pub record LineState : Type 0 where
  pub log : LogState
  pub view : LineView
  pub table : TableId

-- A line of one share that was split from another: it has seen what that has, and its log is empty.
pub record IsSplitFrom (parent : LineState) (room : ℕ) (line : LineState) : Type 0 where
  pub log : line.log ≡ empty_log room
  pub view : line.view ≡ child_view parent.view
  pub table : line.table ≡ parent.table

-- Two lines as one: the entries of the first, then those of the second, the room of the first, and
-- what both know, with the shares of both, which one more load has shown to be no more than all.
abbrev pub joined : LineState → LineState → LineState
joined line other = record line {
  log = record line.log { entries = line.log.entries ++ other.log.entries; kept = true };
  view = with_unrecorded_load (joined_view line.view other.view);
}

-- a line and others as one, joined in their order
abbrev pub all_joined : LineState → List LineState → LineState
all_joined line others = fold joined line others

-- the lines of pairs, each of some value and a line
abbrev pub lines_of : {T : Type 0} → List (T × LineState) → List LineState
lines_of pairs = map (λ pair. pair.1) pairs

-- what closing makes of such a pair: the same value, and the log of the line
abbrev pub IsLogBeside : {T A : Type 0} → T × LineState → T × Vec Entry A → Type 0
IsLogBeside pair log = (log.0 ≡ pair.0) × (log.1.items ≡ pair.1.log.entries)

-- Of each channel the line afterwards has seen at least as many events as this one.
abbrev pub SeesAtLeast : LineState → LineState → Type 0
SeesAtLeast line after = (c : ℕ) → seen_on c line.view.seen ≤ seen_on c after.view.seen

-- how many events of the channel are known after an answer: one more if it was an event
abbrev pub number_after : ℕ → Reply → ℕ
number_after number reply = if is_some (flags_shown reply) then number else number + 1

-- Events of other lines came between the load and the exchange: the operation was ready at the
-- load, and is held with the flags that the exchange found.
pub record IsLost (history : List Event) (op : ChanOp) (r : Numbered) : Type 0 where
  pub later : r.loaded < r.number
  pub was_ready : (e : Event) × IsReady (take r.loaded history) op e
  pub held : r.reply ≡ Reply.Held (flags_of history)

-- The answer to an operation on a channel that has this history after it: either the channel
-- answered at once, after the events that the load found, or the exchange was lost.
pub record IsAnsweredBy (history : List Event) (op : ChanOp) (r : Numbered) : Type 0 where
  pub now : length history ≡ number_after r.number r.reply
  pub at_once : r.number ≡ r.loaded → IsAnswer (take r.loaded history) op r.reply history
  pub lost : r.number ≢ r.loaded → IsLost history op r

-- The line after an answer to an operation on channel c that found these words: log and view record
-- what it saw or did; the program orders grow by a look for each word and then the event, if any.
abbrev pub answered : LineState → ℕ → ChanOp → Numbered → List ℕ → LineState
answered line c op r words = record line {
  log = with_seen line.log c r.number (seen_answered op r.reply);
  view = record line.view {
    events = line.view.events
        ++ option_to_list (option_map (event_entry c r.number) (event_answered op r.reply));
    seen = slice_set line.view.seen (channel_index c) (number_after r.number r.reply);
    found = line.view.found ++ map (λ word. record { channel = c; word = word }) words;
    program_orders = extended line.view.program_orders (on_channels (map (look_by c) words
        ++ option_to_list (option_map (event_entry c r.number) (event_answered op r.reply))));
  };
}

-- What a call answers: the line then knows histories of which that of channel c gave this answer.
pub record IsActed (line : LineState) (c : ℕ) (op : ChanOp) (r : Numbered) (after : LineState)
    : Type 0 where
  -- it found the word that it loaded and, if the exchange was lost, the word that stood there then
  pub words : List ℕ
  pub words_found : map number_in words
      ≡ r.loaded ∷ (if r.number == r.loaded then [] else r.number ∷ [])
  pub after_is : after ≡ answered line c op r words
  pub histories : List (List Event)
  pub known : Knows after.view after.log.entries histories
  pub answer : IsAnsweredBy (history_on c histories) op r
  -- no look is older than what the line had seen
  pub not_older : seen_on c line.view.seen ≤ r.loaded
  -- on a worn channel only an operation that only looks is answered
  pub not_worn : only_looks op ≡ false → r.loaded < greatest_number
  -- a line that holds every share knew the whole histories before this answer
  pub alone : line.view.shares ≡ line.view.whole → (r.number ≡ r.loaded) × Merges no_opening
      (slice_set histories (channel_index c) (take r.loaded (history_on c histories)))
      line.log.entries

-- The channel is worn, the line has now seen all its events, and the operation does more than look.
pub record IsWornOut (line : LineState) (c : ℕ) (op : ChanOp) (after : LineState) : Type 0 where
  pub acts : only_looks op ≡ false
  pub word : ℕ
  pub word_found : number_in word ≡ greatest_number
  pub after_is : after ≡ record line { view = finds line.view c word }
  pub histories : List (List Event)
  pub known : Knows after.view after.log.entries histories
  pub worn : length (history_on c histories) ≡ greatest_number
  pub all_seen : seen_on c after.view.seen ≡ greatest_number

-- The channels of a line that holds every share: their histories are those that its log records.
pub record AreClosed (line : LineState) (histories : List (List Event)) : Type 0 where
  pub known : Knows line.view line.log.entries histories
  pub law : All KeepsLaw histories
  pub merged : Merges no_opening histories line.log.entries

-- There is one total order of all accesses, over these first words of central memory, which extends
-- each program order of each line. Each read in it finds the word that was written last, each write
-- is one that one line made, and the log of each line is drawn from the line's program orders.
pub record AreInOneOrder (central : List ℕ) (histories : List (List Event)) (lines : List LineState)
    : Type 0 where
  pub order : List Access
  pub total : IsTotalOrderOf no_opening histories (entries_among order)
  pub finds : FindsWords central order
  pub made : AreMade (flat_map (λ line. line.view.written) lines) order
  pub program_orders : All (λ line. ExtendsEach order line.view.program_orders) lines
  pub logs : All (λ line. IsDrawnFrom line.view.program_orders line.log.entries) lines
