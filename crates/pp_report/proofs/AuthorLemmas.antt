-- Authors of events, log after log, and the lines that name them.
use Rattle.std.proofs.Common.{◌≡◌, ◌∙◌, ℕ, ◌+◌, ◌<◌, List, [], ◌∷◌, length, drop, take, Option, Some, None, option_map, slice_index_or, slice_set, map, replicate, zero, suc, refl, sym, ap, arith}
use Rattle.pp_line.specs.Merge.{logs_event, times_logged}
use Rattle.std.specs.Prelude.{IsTrue, nat_lt, if◌then◌else◌}
use Rattle.std.specs.List.{position_from}
use Rattle.std.proofs.lemmas.Iterator.Adapters.{position_from-zero}
use Rattle.std.proofs.lemmas.Bool.{lt-ltb}
use Rattle.std.proofs.Math.Bool.{or-false, or-true}
use Rattle.std.proofs.Math.ListN.{get_or-map}
use Rattle.std.proofs.lemmas.List.{drop_more, get_or_default, map-set}
use Rattle.std.proofs.lemmas.List.Sums.{count_by_more_no, count_by_more_yes}
use Rattle.pp_numbers.specs.ChannelNo.{channel_count, channel_index, names_channel}
use Rattle.pp_channel.specs.History.{history_on}
use Rattle.pp_report.specs.Types.{Entry, Event, Worker}
use Rattle.pp_numbers.specs.PpNo.{processor_count, processor_number}
use Rattle.pp_report.specs.Authors.{AreAuthors, AreAuthorsOn, AreMarked, author_at}
use Rattle.pp_report.specs.PrintedReport.{author_place}

-- The author of an event, by the workers from a place on.
abbrev pub author_from : {Z : Type 0} → ℕ → ℕ → ℕ → List (Worker Z) → Option ℕ
author_from {Z} c number place workers =
    option_map processor_number (position_from (λ (worker : Worker Z). nat_lt 0 (times_logged c number worker.log.items)) place (drop place workers))

-- by one worker more
pub author_more : {Z : Type 0} (c number place : ℕ) (workers : List (Worker Z)) (worker : Worker Z) (before after : Option ℕ) (author : ℕ)
    → place < length workers → worker ≡ slice_index_or workers place worker → author ≡ processor_number place → before ≡ author_from c number (place + 1) workers
    → after ≡ (if nat_lt 0 (times_logged c number worker.log.items) then Some author else before) → after ≡ author_from c number place workers
author_more {Z} c number place workers worker before after author l at by was now = grind (arith, drop_more)

-- by all workers
pub author_of_all : {Z : Type 0} (c number : ℕ) (workers : List (Worker Z)) → author_from c number 0 workers ≡ option_map processor_number (author_place c workers number)
author_of_all {Z} c number workers = ap (option_map processor_number) (sym (position_from-zero (λ (worker : Worker Z). nat_lt 0 (times_logged c number worker.log.items)) workers))

-- none marked
pub marked_none : (author : ℕ) (authors : List (List (Option ℕ))) → length authors ≡ channel_count → AreMarked author (λ c number. nat_lt 0 (times_logged c number [])) authors authors
marked_none author authors each = record { each_channel = each; each_event = λ c. refl; marked = λ c number names below. refl }

-- those that a log records, by one entry more
pub marked_more : (author : ℕ) (log : List Entry) (i : ℕ) (entry : Entry) (before mid after : List (List (Option ℕ))) → i < length log → entry ≡ slice_index_or log i entry
    → AreMarked author (λ c number. nat_lt 0 (times_logged c number (take i log))) before mid → AreMarked author (λ c number. logs_event c number entry) mid after
    → AreMarked author (λ c number. nat_lt 0 (times_logged c number (take (i + 1) log))) before after
marked_more author log i entry before mid after inside is was more = grind (arith, slice_index_or, count_by_more_yes, lt-ltb, or-true, count_by_more_no, or-false)

-- the authors on one channel, of those on all
pub authors_here : {Z : Type 0} (c place : ℕ) (workers : List (Worker Z)) (histories : List (List Event)) (all : List (List (Option ℕ))) (h : List Event) (here : List (Option ℕ)) → IsTrue (names_channel c)
    → place ≡ channel_index c → place < length all → here ≡ slice_index_or all place here → h ≡ history_on c histories → AreAuthors workers histories all → AreAuthorsOn c workers h here
authors_here {Z} c place workers histories all h here names at within is same are number below = grind (arith, slice_index_or, get_or_default)

-- the author at a place of a list of places
pub author_read : (places : List ℕ) (number : ℕ) → slice_index_or (map author_at places) number None ≡ author_at (slice_index_or places number processor_count)
unfolding author_at
author_read places number = get_or-map author_at places number processor_count

-- nobody is known of a list that is new
pub nobody_of : (count : ℕ) → map author_at (replicate count processor_count) ≡ replicate count None
unfolding author_at
nobody_of zero = refl
nobody_of (suc count) = ap (λ rest. None ∷ rest) (nobody_of count)

-- the author at a place that is given by number
pub author_there : (place author : ℕ) → place < processor_count → author ≡ processor_number place → author_at place ≡ Some author
unfolding author_at
author_there place author below is = grind (arith, below, is)

-- a mark: one author takes the place of what was there
pub marked_at : (places : List ℕ) (number place author : ℕ) → place < processor_count → author ≡ processor_number place
    → map author_at (slice_set places number place) ≡ slice_set (map author_at places) number (Some author)
marked_at places number place author below is = map-set author_at places number place ∙ ap (λ one. slice_set (map author_at places) number one) (author_there place author below is)
