-- What the text of how things stand shows, and when two texts show the same.
use Rattle.std.specs.Prelude.{◌≡◌, ℕ, ◌<◌, ◌^◌, false, Bool, List, ◌++◌, Option, None, Some, IfSome, IsTrue, slice_index_or, option_map, if◌then◌else◌}
use Rattle.std.specs.List.{All}
use Rattle.pp_numbers.specs.ChannelNo.{names_channel}
use Rattle.pp_numbers.specs.PpNo.{is_named, processor_index}
use Rattle.pp_channel.specs.Answer.{flags_of}
use Rattle.pp_channel.specs.History.{history_on}
use Rattle.pp_channel.specs.declared.flags.Flags.{Flags}
use Rattle.pp_machine.specs.MachineState.{MachineState, history_of, processor_of}
use Rattle.pp_machine.specs.MachineStep.{step_outcome}
use Rattle.pp_processor.specs.NeedAndEffect.{need}
use Rattle.pp_processor.specs.Processor.{HasFaultNumber}
use Rattle.pp_processor.specs.declared.{need.Need.Need, outcome.Outcome.Outcome, pp_state.PpState.PpState}
use Rattle.pp_processor.specs.declared.need.Need.TheVariants.{Channel}
use Rattle.pp_processor.specs.declared.outcome.Outcome.TheVariants.{Held}
use Rattle.pp_run.specs.StepCounts.{no_steps}
use Rattle.pp_run.specs.declared.step_counts.StepCounts.{StepCounts}
use Rattle.pp_deck.specs.DeckLine.{Line, central_words, section, words}
use Rattle.pp_text.specs.InstructionText.{running_instruction}
use Rattle.pp_text.specs.TextLaw.{HistoryFits, ShowSameChannel}
use Rattle.pp_state.specs.Changes.{changed_central, changed_sections}

-- a processor: P, A, its state, the instruction that runs, the next place of a block in progress,
-- and what holds it: a channel, its flags, and how many steps in a row were held
pub record ShownProcessor : Type 0 where
  pub p : ℕ
  pub a : ℕ
  pub state : PpState
  pub instruction : List ℕ
  pub place : Option ℕ
  pub held : Option (ℕ × (Flags × ℕ))

abbrev pub hold_of : Need → Outcome → MachineState → ℕ → Option (ℕ × (Flags × ℕ))
hold_of (Channel c operation) Held m count = Some (c, (flags_of (history_of c m), count))
hold_of need outcome m count = None

abbrev pub processor_shown : ℕ → MachineState → ℕ → ShownProcessor
processor_shown n m count =
    let pp = processor_of n m in record {
      p = pp.p;
      a = pp.a;
      state = pp.state;
      instruction = running_instruction pp;
      place = option_map (λ block. block.place) pp.block;
      held = hold_of (need pp) (step_outcome n m) m count;
    }

-- what is shown of processor n, if anything is
abbrev pub shown_of : List Bool → MachineState → List StepCounts → ℕ → Option ShownProcessor
shown_of shown m counts n = if is_named shown n
    then Some (processor_shown n m (slice_index_or counts (processor_index n) no_steps).last_held)
    else None

-- the words that differ, by processor and place, and those of central memory
abbrev pub words_changed : MachineState → MachineState → List Line
words_changed before after =
    changed_sections before after ++ changed_central before.central after.central

-- a processor fits its line
pub record FitsItsStanding (s : ShownProcessor) : Type 0 where
  pub p : s.p < 2 ^ 12
  pub a : s.a < 2 ^ 18
  pub state : HasFaultNumber s.state
  pub place : IfSome s.place (λ place. place < 2 ^ 12)
  pub held : IfSome s.held (λ (c, (flags, count)). IsTrue (names_channel c)
      × ((flags.active ≡ false → flags.full ≡ false) × (count < 10 ^ 10)))

-- so does a line of words
abbrev pub FitsItsWords : Line → Type 0
FitsItsWords (section n) = n < 8 ^ 2
FitsItsWords (words place ws) = (place < 2 ^ 12) × All (λ w. w < 2 ^ 12) ws
FitsItsWords (central_words a ws) = (a < 8 ^ 6) × All (λ w. w < 2 ^ 60) ws
FitsItsWords line = ⊥

pub record FitsItsState (shown : List Bool) (before after : MachineState)
    (counts : List StepCounts) : Type 0 where
  pub processors : (n : ℕ) → IfSome (shown_of shown after counts n) FitsItsStanding
  pub words : All FitsItsWords (words_changed before after)
  pub channels : (c : ℕ) → IsTrue (names_channel c) → HistoryFits (history_on c after.histories)

-- the same processors, words and channels
pub record AgreeOnState (shown others : List Bool) (before after load other : MachineState)
    (counts more : List StepCounts) : Type 0 where
  pub processors : (n : ℕ) → shown_of shown after counts n ≡ shown_of others other more n
  pub words : words_changed before after ≡ words_changed load other
  pub channels : (c : ℕ) → IsTrue (names_channel c)
      → ShowSameChannel (history_on c after.histories) (history_on c other.histories)
