-- What a line knows of the channels, and what its steps and calls make of that.
use Rattle.std.specs.Prelude.{◌≡◌, ℕ, ◌+◌, ◌-◌, ◌≤◌, max, List, [], ◌∷◌, ◌++◌, length, map, zip, replicate, All, slice_set}
use Rattle.pp_line.specs.Types.{Access, Entry, Event, LineView}
use Rattle.pp_numbers.specs.ChannelNo.{channel_count, channel_index}
use Rattle.pp_line.specs.ChannelWord.{number_in, flags_in}
use Rattle.pp_line.specs.LineLog.{event_entry, look_entry, seen_on}
use Rattle.pp_line.specs.Merge.{IsTrueOf, IsRecordedBy}
use Rattle.pp_channel.specs.History.{AreHistories, history_on}
use Rattle.pp_line.specs.Order.{extended}
use Rattle.pp_line.specs.SharedWords.{IsFound}

-- the view of a line that has made no access: its one program order is empty
abbrev pub blank_view : ℕ → ℕ → List ℕ → List ℕ → LineView
blank_view shares whole central seen = record {
  shares = shares;
  whole = whole;
  events = [];
  found = [];
  unrecorded_loads = 0;
  seen = seen;
  central = central;
  written = [];
  program_orders = [] ∷ [];
}

-- the view of the first line, which has all shares
abbrev pub first_view : ℕ → List ℕ → LineView
first_view whole central = blank_view whole whole central (replicate channel_count 0)

-- the views of a line that gives a share away, by an unrecorded load, and of the line that has it
abbrev pub parent_view : LineView → LineView
parent_view v = record v { shares = v.shares - 1; unrecorded_loads = v.unrecorded_loads + 1 }

abbrev pub child_view : LineView → LineView
child_view v = blank_view 1 v.whole v.central v.seen

abbrev pub greater_of_each : List ℕ → List ℕ → List ℕ
greater_of_each seen other = map (λ pair. max pair.0 pair.1) (zip seen other)

-- the view of two lines as one, by an unrecorded load
abbrev pub joined_view : LineView → LineView → LineView
joined_view v w = record v {
  shares = v.shares + w.shares;
  events = v.events ++ w.events;
  found = v.found ++ w.found;
  unrecorded_loads = v.unrecorded_loads + w.unrecorded_loads + 1;
  written = v.written ++ w.written;
  seen = greater_of_each v.seen w.seen;
  program_orders = v.program_orders ++ w.program_orders;
}

-- the look that a word found on channel c gives
abbrev pub look_by : ℕ → ℕ → Entry
look_by c word = look_entry c (number_in word) (flags_in word)

-- the view after a word was found on channel c
abbrev pub finds : LineView → ℕ → ℕ → LineView
finds v c word = record v {
  found = v.found ++ record { channel = c; word = word } ∷ [];
  seen = slice_set v.seen (channel_index c) (number_in word);
  program_orders = extended v.program_orders (Access.OnChannel (look_by c word) ∷ []);
}

-- the view after an event was made on channel c
abbrev pub makes : LineView → ℕ → ℕ → Event → LineView
makes v c number e = record v {
  events = v.events ++ event_entry c number e ∷ [];
  seen = slice_set v.seen (channel_index c) (number + 1);
  program_orders = extended v.program_orders (Access.OnChannel (event_entry c number e) ∷ []);
}

-- the view after a word was found in central memory
abbrev pub reads : LineView → ℕ → ℕ → LineView
reads v address word =
    record v { program_orders = extended v.program_orders (Access.Read address word ∷ []) }

-- the view after a word was written there, `number` writes of all lines having come before
abbrev pub writes : LineView → ℕ → ℕ → ℕ → LineView
writes v address word number = record v {
  written = v.written ++ number ∷ [];
  program_orders = extended v.program_orders (Access.Write address word number ∷ []);
}

-- the view after a load whose word was not noted
abbrev pub with_unrecorded_load : LineView → LineView
with_unrecorded_load v = record v { unrecorded_loads = v.unrecorded_loads + 1 }

-- A line knows of the histories of the channels: they are lawful, with words of 12 bits; its log is
-- true of them; it has seen no more events than they have, and each word that it found is that of a
-- prefix of one. If it holds every share, it knows all that happened.
pub record Knows (v : LineView) (log : List Entry) (histories : List (List Event)) : Type 0 where
  pub sound : AreHistories histories
  pub log_true : All (IsTrueOf histories) log
  pub seen_happened : (c : ℕ) → seen_on c v.seen ≤ length (history_on c histories)
  pub words_found : All (IsFound histories) v.found
  pub all_known : v.shares ≡ v.whole → IsRecordedBy log v.seen histories
