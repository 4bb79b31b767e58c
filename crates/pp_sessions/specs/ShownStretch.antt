-- What the text of sessions shows: of each stretch of a channel, and of each processor.
use Rattle.std.specs.Prelude.{ℕ, ◌<◌, ◌^◌, Bool, List, [], ◌∷◌, ◌++◌, Option, None, Some, IfSome, IsTrue, slice_index_or, if◌then◌else◌}
use Rattle.std.specs.List.{All, flat_map}
use Rattle.pp_numbers.specs.ChannelNo.{all_channels, names_channel}
use Rattle.pp_numbers.specs.PpNo.{all_processors, is_named, names_processor, processor_index}
use Rattle.pp_machine.specs.MachineState.{MachineState}
use Rattle.pp_run.specs.StepCounts.{no_steps}
use Rattle.pp_run.specs.declared.step_counts.StepCounts.{StepCounts}
use Rattle.pp_sessions.specs.SessionsText.{next_number}
use Rattle.pp_sessions.specs.Stretches.{stretches, tally_of, words_in}
use Rattle.pp_sessions.specs.TimedEvents.{timed_events}
use Rattle.pp_sessions.specs.declared.{tally.Moment.Moment, tally.TimedEvent.TimedEvent, tally.Tally.Tally}
use Rattle.pp_sessions.specs.declared.tally.Moment.TheVariants.{DeadStart, Turn}

-- an idle stretch of a channel: how many function codes, when the first and when the last; or a
-- session: its number, when it began, and ended if it has; how many words were put and taken, and
-- the word untaken. Then the words, or codes, if they are asked for
pub data ShownStretch : Type 0 where
  Idle : (channel count : ℕ) (from to : Moment) (words : List ℕ) → ShownStretch
  InSession : (channel number : ℕ) (from : Moment) (to : Option Moment) (put taken : ℕ)
      (untaken : Option ℕ) (words : List ℕ) → ShownStretch

-- that of a tally; if it is a session, it has this number
abbrev pub tally_shown : ℕ → ℕ → Tally → List ℕ → ShownStretch
tally_shown c number stretch words = if stretch.is_session
    then InSession c number stretch.from (if stretch.has_ended then Some stretch.to else None)
    stretch.put stretch.taken stretch.untaken words
    else Idle c stretch.events stretch.from stretch.to words

abbrev pub stretch_shown : Bool → ℕ → ℕ → List TimedEvent → List ShownStretch
stretch_shown with_words c number [] = []
stretch_shown with_words c number (first ∷ others) = tally_shown c number (tally_of first others)
    (if with_words then words_in (first ∷ others) else []) ∷ []

-- of stretches, if the first session among them has this number
abbrev pub shown_from : Bool → ℕ → ℕ → List (List TimedEvent) → List ShownStretch
shown_from with_words c number [] = []
shown_from with_words c number (stretch ∷ others) = stretch_shown with_words c number stretch
    ++ shown_from with_words c (next_number number stretch) others

-- of all channels, in order
abbrev pub stretches_shown : Bool → MachineState → List ShownStretch
stretches_shown with_words m =
    flat_map (λ c. shown_from with_words c 1 (stretches (timed_events c m))) all_channels

-- a processor, and how many steps moved it, were held, and found it at rest
pub record ShownCounts : Type 0 where
  pub processor : ℕ
  pub moved : ℕ
  pub held : ℕ
  pub at_rest : ℕ

abbrev pub counts_of : ℕ → StepCounts → ShownCounts
counts_of n counts = record {
  processor = n;
  moved = counts.moved;
  held = counts.held;
  at_rest = counts.at_rest;
}

-- of the processors shown, in order
abbrev pub counts_shown : List Bool → List StepCounts → List ShownCounts
counts_shown shown counts = flat_map (λ n. if is_named shown n
    then counts_of n (slice_index_or counts (processor_index n) no_steps) ∷ [] else [])
    all_processors

-- ---- what fits: turns and counts of 64 bits, words of 12

abbrev pub FitsMoment : Moment → Type 0
FitsMoment DeadStart = Unit {0}
FitsMoment (Turn turn) = turn < 2 ^ 64

abbrev pub FitsItsStretch : ShownStretch → Type 0
FitsItsStretch (Idle c count from to words) = IsTrue (names_channel c)
    × ((count < 2 ^ 64) × (FitsMoment from × (FitsMoment to × All (λ w. w < 2 ^ 12) words)))
FitsItsStretch (InSession c number from to put taken untaken words) = IsTrue (names_channel c)
    × ((number < 2 ^ 64) × (FitsMoment from × (IfSome to FitsMoment × ((put < 2 ^ 64)
    × ((taken < 2 ^ 64) × (IfSome untaken (λ w. w < 2 ^ 12) × All (λ w. w < 2 ^ 12) words))))))

pub record FitsItsCounts (counts : ShownCounts) : Type 0 where
  pub processor : IsTrue (names_processor counts.processor)
  pub moved : counts.moved < 2 ^ 64
  pub held : counts.held < 2 ^ 64
  pub at_rest : counts.at_rest < 2 ^ 64
