-- How far the lines of a channel are printed: the stretch that is not over yet, and the number of
-- the next session. (Private contracts alone cite this.)
use Rattle.std.specs.Prelude.{◌≡◌, ℕ, ◌+◌, ◌≤◌, Bool, false, List, [], ◌∷◌, ◌++◌, drop, length, Option, None, Some, IfSome}
use Rattle.pp_channel.specs.Session.{puts, takes}
use Rattle.pp_channel.specs.declared.event.Event.{Event}
use Rattle.pp_channel.specs.declared.event.Event.TheVariants.{Put, Take}
use Rattle.pp_machine.specs.declared.trace.Trace.{Trace}
use Rattle.pp_sessions.specs.SessionsText.{lines_from}
use Rattle.pp_sessions.specs.Stretches.{are_parted, ends_session, stretches, tally_of, words_in}
use Rattle.pp_sessions.specs.TimedEvents.{timed_on}
use Rattle.pp_sessions.specs.declared.{tally.TimedEvent.TimedEvent, open_stretch.OpenStretch.OpenStretch, tally.Tally.Tally}

-- a list is cut nowhere: no two neighbours pass the test
abbrev pub IsUncut : {X : Type 0} → (X → X → Bool) → X → List X → Type 0
IsUncut test x [] = Unit {0}
IsUncut test x (next ∷ xs) = (test x next ≡ false) × IsUncut test next xs

-- the number of the next session; of the stretch that is open, if one is, the tally and the words
pub record Open : Type 0 where
  pub number : ℕ
  pub tally : Option Tally
  pub words : List ℕ

-- the same, after these entries of the trace
abbrev pub open_at : ℕ → List Trace → OpenStretch → Open
open_at c past stretch = record {
  number = stretch.number;
  tally = stretch.tally;
  words = words_in (timed_on c (drop stretch.start past));
}

-- these events make up the stretch with this tally and these words, if one is open
abbrev pub IsOpen : Option Tally → List ℕ → List TimedEvent → Type 0
IsOpen None words [] = Unit {0}
IsOpen None words (first ∷ others) = ⊥
IsOpen (Some tally) words [] = ⊥
IsOpen (Some tally) words (first ∷ others) = (tally ≡ tally_of first others)
    × (words ≡ words_in (first ∷ others)) × IsUncut are_parted first others

-- events come, and these lines are printed: whatever comes after, the text of all that is to come
-- is these lines and then what the new stretch gives for the rest
abbrev pub TakesIn : Bool → ℕ → Open → List TimedEvent → List ℕ → Open → Type 0
TakesIn with_words c old events printed new =
    (stretch : List TimedEvent) → IsOpen old.tally old.words stretch
    → (after : List TimedEvent) × IsOpen new.tally new.words after × ((rest : List TimedEvent)
    → lines_from with_words c old.number (stretches (stretch ++ (events ++ rest)))
    ≡ printed ++ lines_from with_words c new.number (stretches (after ++ rest)))

-- the word put and not taken after an event, if it was this before
abbrev pub untaken_after : Event → Option ℕ → Option ℕ
untaken_after (Put w) word = Some w
untaken_after (Take w) word = None
untaken_after event word = word

-- `tally_of` of a stretch with an event more, by what it was before
abbrev pub with_event : Tally → TimedEvent → Tally
with_event told e = record {
  is_session = told.is_session;
  has_ended = ends_session e.event;
  from = told.from;
  to = e.moment;
  events = told.events + 1;
  put = told.put + length (puts (e.event ∷ []));
  taken = told.taken + length (takes (e.event ∷ []));
  untaken = untaken_after e.event told.untaken;
}

-- the counts of a stretch are at most this
pub record CountsAtMost (most : ℕ) (tally : Tally) : Type 0 where
  pub events : tally.events ≤ most
  pub put : tally.put ≤ most
  pub taken : tally.taken ≤ most

-- at most `most` events have come
pub record HasAtMost (most : ℕ) (stretch : OpenStretch) : Type 0 where
  pub number : stretch.number ≤ most + 1
  pub tally : IfSome stretch.tally (CountsAtMost most)
