-- The atomic steps of a line on the shared words: what each makes of the line's view, and what it
-- reveals; and how the line's log agrees with its view. (Only private contracts cite this.)
use Rattle.std.specs.Prelude.{◌≡◌, ◌≢◌, ℕ, ◌<◌, ◌≤◌, ◌^◌, ◌==◌, MatchBool, IsTrue, List, [], ◌∷◌, ◌++◌, length, All, Contains, slice_set}
use mathlib.Core.Option.{Option, none, some}
use Rattle.atomic_table.specs.Table.{Me, Step}
use Rattle.pp_line.specs.Types.{Access, Entry, Event, LineView, Seen}
use Rattle.pp_numbers.specs.ChannelNo.{channel_count, channel_index, names_channel}
use Rattle.pp_line.specs.ChannelWord.{history_word, number_in, flags_in}
use Rattle.pp_line.specs.LineLog.{event_entry, IsWithin}
use Rattle.pp_line.specs.Order.{IsTotalOrderOf, ExtendsEach, IsDrawnFrom, entries_among, FindsWords, AreMade}
use Rattle.pp_line.specs.LineView.{finds, makes, reads, writes, with_unrecorded_load, Knows}
use Rattle.pp_line.specs.Merge.{times_logged, no_opening}
use Rattle.pp_channel.specs.History.{history_on}
use Rattle.pp_line.specs.SharedWords.{word_place, central_place}

-- An event in a log is one that the view has; a look was read off a word that the view found.
abbrev pub IsBackedAt : LineView → ℕ → ℕ → Seen → Type 0
IsBackedAt v c number (Seen.Did e) = Contains v.events (event_entry c number e)
IsBackedAt v c number (Seen.Saw f) =
    (word : ℕ) × Contains v.found (record { channel = c; word = word })
    × (number_in word ≡ number) × (flags_in word ≡ f)

abbrev pub IsBacked : LineView → Entry → Type 0
IsBacked v entry = IsBackedAt v entry.channel entry.number entry.what

-- The log of a line with this view: it has each event of the view, as often as the view has it, and
-- no other, lies within what the line has seen, and is drawn from the line's program orders.
pub record IsLogOf (v : LineView) (log : List Entry) : Type 0 where
  pub each_channel : length v.seen ≡ channel_count
  pub told : (c number : ℕ) → times_logged c number log ≡ times_logged c number v.events
  pub backed : All (IsBacked v) log
  pub within : IsWithin v.seen log
  pub some_program_order : 0 < length v.program_orders
  pub drawn : IsDrawnFrom v.program_orders log

-- what a step on channel c that finds this word reveals: the histories at that moment, and an order
pub record Tells (v : LineView) (c word : ℕ) : Type 0 where
  pub named : IsTrue (names_channel c)
  pub histories : List (List Event)
  pub known : Knows v v.events histories
  pub word_is : history_word (history_on c histories) ≡ word
  pub order : List Access
  pub total : IsTotalOrderOf no_opening histories (entries_among order)
  pub finds : FindsWords v.central order
  pub made : v.shares ≡ v.whole → AreMade v.written order
  pub program_orders : ExtendsEach order v.program_orders

-- A step on the word of a channel, of a line that has a share, relates the line's view, the word
-- that it finds and the view after it so; the line's slots stay.
abbrev pub OnChannel : (ℕ → LineView → ℕ → LineView → Type 0) → Step Event → Me Event LineView
    → ℕ → Me Event LineView → Type 0
OnChannel Does step before word after = (after.1 ≡ before.1)
    × ((c : ℕ) → IsTrue (names_channel c) → step.word ≡ word_place c → 0 < before.0.shares
    → Does c before.0 word after.0)

-- A load: the word is noted.
pub record IsLoad (c : ℕ) (before : LineView) (word : ℕ) (after : LineView) : Type 0 where
  pub after_is : after ≡ finds before c word
  pub tells : Tells before c word
  pub known_after : Knows after after.events tells.histories

-- An exchange that was won: the event was made, and is the next of its channel.
pub record IsWonExchange (c : ℕ) (before : LineView) (word : ℕ) (e : Event) (after : LineView)
    : Type 0 where
  pub after_is : after ≡ makes before c (number_in word) e
  pub tells : Tells before c word
  pub known_after : Knows after after.events
      (slice_set tells.histories (channel_index c) (history_on c tells.histories ++ e ∷ []))

-- An exchange that was lost is a load: more events had come than known, so there are other lines.
pub record IsLostExchange (c expected : ℕ) (before : LineView) (word : ℕ) (after : LineView)
    : Type 0 where
  pub load : IsLoad c before word after
  pub later : number_in expected < number_in word
  pub others : before.shares ≢ before.whole

-- An exchange: it is won if it found the word that it expected.
abbrev pub IsExchange : ℕ → ℕ → Event → LineView → ℕ → LineView → Type 0
IsExchange c expected e before word after =
    MatchBool (word == expected) (IsWonExchange c before word e after)
    (IsLostExchange c expected before word after)

-- the exchange of a step, which is for the event that the step announces
abbrev pub announced : ℕ → ℕ → Option Event → LineView → ℕ → LineView → Type 0
announced c expected none before word after = ⊥
announced c expected (some e) before word after = IsExchange c expected e before word after

abbrev pub exchanges : Step Event → Me Event LineView → ℕ → Me Event LineView → Type 0
exchanges step = OnChannel (λ c. announced c step.first step.said) step

-- A step on a word of central memory relates the line's view, the word that it finds or writes and
-- the view after it so; the line's slots stay.
abbrev pub OnCentral : (ℕ → LineView → ℕ → LineView → Type 0) → Step Event → Me Event LineView
    → ℕ → Me Event LineView → Type 0
OnCentral Does step before word after = (after.1 ≡ before.1)
    × ((address : ℕ) → step.word ≡ central_place address → Does address before.0 word after.0)

pub record IsRead (address : ℕ) (before : LineView) (word : ℕ) (after : LineView) : Type 0 where
  pub after_is : after ≡ reads before address word
  pub small : word < 2 ^ 60

abbrev pub IsWrite : ℕ → LineView → ℕ → LineView → Type 0
IsWrite address before word after = (number : ℕ) × (after ≡ writes before address word number)

-- A load that is only counted, and reveals that a line has no more shares than there are.
pub record IsShareCheck (c : ℕ) (before : LineView) (word : ℕ) (after : LineView) : Type 0 where
  pub after_is : after ≡ with_unrecorded_load before
  pub shares_fit : before.shares ≤ before.whole
  pub tells : Tells before c word
