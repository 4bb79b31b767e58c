-- A circle, which no order can have. One processor takes a word from channel 1, then puts one on
-- channel 2. The other takes that, and only then puts on channel 1 the word that the first took.
use Rattle.std.specs.Prelude.{◌-◌, List, [], ◌∷◌, replicate}
use Rattle.pp_numbers.specs.ChannelNo.{channel_count}
use Rattle.pp_line.specs.LineLog.{event_entry}
use Rattle.pp_report.specs.Types.{Entry, Event}

-- on channel 1 a word passes, on channel 2 another, and nothing happens on the other channels
abbrev pub histories_of_circle : List (List Event)
histories_of_circle =
    [] ∷ (Event.Activate ∷ Event.Put 5 ∷ Event.Take 5 ∷ [])
    ∷ (Event.Activate ∷ Event.Put 7 ∷ Event.Take 7 ∷ []) ∷ replicate (channel_count - 3) []

abbrev pub one_log : List Entry
one_log = event_entry 1 0 Event.Activate ∷ event_entry 1 2 (Event.Take 5)
    ∷ event_entry 2 1 (Event.Put 7) ∷ []

abbrev pub other_log : List Entry
other_log = event_entry 2 0 Event.Activate ∷ event_entry 2 2 (Event.Take 7)
    ∷ event_entry 1 1 (Event.Put 5) ∷ []
