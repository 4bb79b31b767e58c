-- The tables by which a run is watched: an entry for each processor and each channel, and one for
-- each central word. (Private contracts alone cite this.)
use Rattle.std.specs.Prelude.{◌≡◌, ◌≢◌, ℕ, ◌+◌, ◌*◌, ◌<◌, Bool, ◌||◌, is_some, nat_eq, IsTrue, List, [], Option, None, ◌==◌, length, slice_index_or, if◌then◌else◌}
use Rattle.std.specs.Int.{bit_at}
use Rattle.pp_numbers.specs.ChannelNo.{channel_count, channel_index, names_channel}
use Rattle.pp_channel.specs.declared.flags.Flags.{Flags}
use Rattle.pp_numbers.specs.PpNo.{processor_count, processor_index, names_processor}
use Rattle.pp_machine.specs.declared.trace.Trace.{Trace}
use Rattle.pp_races.specs.ByFlags.{all, at}
use Rattle.pp_races.specs.Cursor.{IsCursor}
use Rattle.pp_races.specs.Watch.{Watch, race_after}
use Rattle.pp_races.specs.declared.{asking_step.AskingStep.AskingStep, by_flags.ByFlags.ByFlags, cursor.Cursor.Cursor, finding.Finding.Finding, missed.Missed.Missed, word_use.WordUse.WordUse}

-- how many entries there are, and the place of the one of processor q and channel c
abbrev pub entry_count : ℕ
entry_count = processor_count * channel_count

abbrev pub entry_place : ℕ → ℕ → ℕ
entry_place q c = processor_index q * channel_count + channel_index c

-- what stands past the end of the table
abbrev pub no_cursor : Cursor
no_cursor = record { from = 0; searched = [] }

-- the events on channel c, and the cursor of processor q in them
abbrev pub events_of : List (List Missed) → ℕ → List Missed
events_of events c = slice_index_or events (channel_index c) []

abbrev pub cursor_of : List Cursor → ℕ → ℕ → Cursor
cursor_of table q c = slice_index_or table (entry_place q c) no_cursor

abbrev pub AreEmpty : List (List Missed) → Type 0
AreEmpty events = (c : ℕ) → events_of events c ≡ []

-- the looks of a processor at a channel, by the flags at which they would have done otherwise
abbrev pub Looks : Type 0
Looks = ByFlags (Option AskingStep)

abbrev pub no_looks : Looks
no_looks = all None

abbrev pub looks_of : List Looks → ℕ → ℕ → Looks
looks_of table q c = slice_index_or table (entry_place q c) no_looks

-- a word that no step used
abbrev pub unused : WordUse
unused = record { writers = 0; users = 0 }

-- whether the bit of processor q is set
abbrev pub has_bit : ℕ → ℕ → Bool
has_bit mask q = nat_eq (bit_at mask (processor_index q)) 1

abbrev pub AreCursors : List (List Missed) → Watch → List Cursor → Type 0
AreCursors events w table = (q c : ℕ) → IsTrue (names_processor q) → IsTrue (names_channel c)
    → IsCursor (events_of events c) (w.missed q c) (cursor_of table q c)

abbrev pub AreLooks : Watch → List Looks → Type 0
AreLooks w table = (q c : ℕ) → IsTrue (names_processor q) → IsTrue (names_channel c) → (f : Flags)
    → at (looks_of table q c) f ≡ w.looks q c f

-- the processors that wrote and used the word of address a
pub record IsUseOf (writes uses : ℕ → ℕ → Bool) (a : ℕ) (use_of : WordUse) : Type 0 where
  pub wrote : (q : ℕ) → IsTrue (names_processor q) → has_bit use_of.writers q ≡ writes a q
  pub used : (q : ℕ) → IsTrue (names_processor q) → has_bit use_of.users q ≡ uses a q

abbrev pub AreUses : Watch → List WordUse → Type 0
AreUses w table =
    (a : ℕ) → a < length table → IsUseOf w.wrote w.used a (slice_index_or table a unused)

-- the looks of processor q at channel c after an event of the maker there, with these flags after
-- it
abbrev pub looks_after_event : ℕ → Flags → ℕ → List Looks → ℕ → Looks
looks_after_event maker after q table c =
    if q == maker || is_some (at (looks_of table q c) after) then no_looks
    else looks_of table q c

-- and what is found of them
abbrev pub closing_findings : Trace → Flags → List Looks → ℕ → List Finding
closing_findings made after table q =
    if q == made.pp then []
    else race_after (at (looks_of table q made.channel) after) made

-- a table of looks after an event: those at its channel may be closed, all others stay
pub record AreClosed (made : Trace) (after : Flags) (old new : List Looks) : Type 0 where
  pub here : (q : ℕ) → IsTrue (names_processor q)
      → looks_of new q made.channel ≡ looks_after_event made.pp after q old made.channel
  pub elsewhere : (q c : ℕ) → IsTrue (names_processor q) → IsTrue (names_channel c)
      → c ≢ made.channel → looks_of new q c ≡ looks_of old q c
