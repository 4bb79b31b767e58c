-- Finding the authors of events, log after log. (Only private contracts cite this.)
use Rattle.std.specs.Prelude.{◌≡◌, ℕ, ◌<◌, Bool, List, [], length, nat_lt, replicate, slice_index_or, Option, Some, None, option_map, IsTrue, if◌then◌else◌}
use Rattle.pp_numbers.specs.ChannelNo.{channel_count, channel_index, names_channel}
use Rattle.pp_channel.specs.History.{history_on}
use Rattle.pp_report.specs.Types.{Event, Worker}
use Rattle.pp_numbers.specs.PpNo.{processor_count, processor_number}
use Rattle.pp_report.specs.PrintedReport.{author_place}

-- the author at a place; past the last processor none is known
unfoldable pub author_at : ℕ → Option ℕ
author_at place = if nat_lt place processor_count then Some (processor_number place) else None

-- the authors of a channel's events while none is known
abbrev pub no_authors : List Event → List (Option ℕ)
no_authors history = replicate (length history) None

-- the authors of the events of channel c, of those of all channels in order
abbrev pub authors_on : ℕ → List (List (Option ℕ)) → List (Option ℕ)
authors_on c authors = slice_index_or authors (channel_index c) []

-- The authors of the events of channel c, by number: of each the processor in whose log it stands,
-- by the workers in order; an opening event has none.
abbrev pub AreAuthorsOn : {Z : Type 0} → ℕ → List (Worker Z) → List Event → List (Option ℕ) → Type 0
AreAuthorsOn c workers history authors = (number : ℕ) → number < length history →
    slice_index_or authors number None ≡ option_map processor_number (author_place c workers number)

-- the same of each channel
abbrev pub AreAuthors : {Z : Type 0} → List (Worker Z) → List (List Event)
    → List (List (Option ℕ)) → Type 0
AreAuthors workers histories authors = (c : ℕ) → IsTrue (names_channel c)
    → AreAuthorsOn c workers (history_on c histories) (authors_on c authors)

-- An author has marked the events that pass a test: these have it now, others what they had.
pub record AreMarked (author : ℕ) (test : ℕ → ℕ → Bool) (before after : List (List (Option ℕ)))
    : Type 0 where
  pub each_channel : length after ≡ channel_count
  pub each_event : (c : ℕ) → length (authors_on c after) ≡ length (authors_on c before)
  pub marked : (c number : ℕ) → IsTrue (names_channel c) → number < length (authors_on c before)
      → slice_index_or (authors_on c after) number None
      ≡ (if test c number then Some author else slice_index_or (authors_on c before) number None)
