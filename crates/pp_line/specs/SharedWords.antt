-- The channels and central memory as words that threads share without a lock: what each line knows
-- of them, and the rule that holds between any two atomic steps, whichever line makes them.
use Rattle.std.specs.Prelude.{◌≡◌, ℕ, ◌+◌, ◌*◌, ◌<◌, ◌≤◌, ◌^◌, IsTrue, List, [], length, take, drop, All, flat_map, sum_by, slice_index}
use Rattle.atomic_table.specs.Table.{State}
use Rattle.pp_line.specs.Types.{Access, Event, FoundWord, LineView}
use Rattle.pp_numbers.specs.ChannelNo.{channel_count, channel_index, names_channel}
use Rattle.pp_line.specs.ChannelWord.{history_word}
use Rattle.pp_line.specs.Merge.{Merges, no_opening}
use Rattle.pp_channel.specs.History.{AreHistories, history_on}
use Rattle.pp_line.specs.LineLog.{IsWithin, seen_on}
use Rattle.pp_line.specs.Order.{IsTotalOrderOf, ExtendsEach, entries_among, left_by, FindsWords, AreMade}

-- The words lie 16 apart, so that no two channels share a cache line.
abbrev pub word_place : ℕ → ℕ
word_place c = 16 * (channel_index c + 1)

abbrev pub place_count : ℕ
place_count = 16 * (channel_count + 1)

-- The words of central memory follow, by address.
abbrev pub central_place : ℕ → ℕ
central_place address = place_count + address

abbrev pub central_in : List ℕ → List ℕ
central_in words = drop place_count words

-- A found word is that of its channel's history after some number of its events.
abbrev pub IsFound : List (List Event) → FoundWord → Type 0
IsFound histories found = (number : ℕ) × (number ≤ length (history_on found.channel histories))
    × (history_word (take number (history_on found.channel histories)) ≡ found.word)

-- What a line knows: its events lie within what it has seen, what it has seen within the histories,
-- each word that it found was the word of its channel at some time, and the order of all accesses
-- extends its program orders. A line without a share is spent, and left no event or write behind.
pub record IsViewOf (histories : List (List Event)) (whole : ℕ) (opening : List ℕ)
    (order : List Access) (v : LineView) : Type 0 where
  pub events_seen : IsWithin v.seen v.events
  pub seen_happened : (c : ℕ) → seen_on c v.seen ≤ length (history_on c histories)
  pub words_found : All (IsFound histories) v.found
  pub program_orders : ExtendsEach order v.program_orders
  pub whole_is : 0 < v.shares → v.whole ≡ whole
  pub each_channel : 0 < v.shares → length v.seen ≡ channel_count
  pub opened_with : 0 < v.shares → v.central ≡ opening
  pub spent : v.shares ≡ 0 → (v.events ≡ []) × (v.written ≡ [])

-- The events of all lines merge to lawful histories, the word of each channel is that of its
-- history, the shares of all lines add up to the whole, and in the one order of the accesses of all
-- lines every line did what it did and saw what it saw. Over the words of central memory at the
-- opening, each read in the order found the word that was written last, and each word is what the
-- order leaves there, a number of 60 bits. The writes of all lines are those of the order.
pub record KeepsRule (whole : ℕ) (opening words : List ℕ) (views : List LineView)
    (histories : List (List Event)) (order : List Access) : Type 0 where
  pub sound : AreHistories histories
  pub merged : Merges no_opening histories (flat_map (λ v. v.events) views)
  pub places : length words ≡ place_count + length opening
  pub words_are : (c : ℕ) → IsTrue (names_channel c)
      → slice_index words (word_place c) ≡ history_word (history_on c histories)
  pub central_are : (address : ℕ) → address < length opening
      → slice_index words (central_place address) ≡ slice_index (left_by opening order) address
  pub small : (address : ℕ) → slice_index (left_by opening order) address < 2 ^ 60
  pub shares : sum_by (λ v. v.shares) views ≡ whole
  pub views_are : All (IsViewOf histories whole opening order) views
  pub total : IsTotalOrderOf no_opening histories (entries_among order)
  pub finds : FindsWords opening order
  pub made : AreMade (flat_map (λ v. v.written) views) order

-- The rule: it holds of some histories, in some order.
abbrev pub Rule : ℕ → List ℕ → State Event LineView → Type 0
Rule whole opening table = (histories : List (List Event)) × (order : List Access)
    × KeepsRule whole opening table.words table.views histories order
