-- What the line of a step shows, as one thing.
use Rattle.std.specs.Prelude.{◌≡◌, ℕ, ◌<◌, ◌^◌, false, List, [], ◌∷◌, Option, None, Some, IfSome, IsTrue, length, map, slice_index, if◌then◌else◌}
use Rattle.std.specs.List.{All, filter, flat_map, range_with_len}
use Rattle.pp_numbers.specs.ChannelNo.{names_channel}
use Rattle.pp_numbers.specs.PpNo.{names_processor}
use Rattle.pp_run.specs.RunSteps.{RunStep}
use Rattle.pp_channel.specs.Answer.{event_of, flags_of}
use Rattle.pp_channel.specs.History.{HasTwelveBitWord}
use Rattle.pp_channel.specs.declared.{event.Event.Event, flags.Flags.Flags}
use Rattle.pp_word.specs.Address.{next_place}
use Rattle.pp_machine.specs.MachineState.{MachineState, history_of, processor_of}
use Rattle.pp_machine.specs.MachineStep.{stepped}
use Rattle.pp_processor.specs.NeedAndEffect.{need}
use Rattle.pp_processor.specs.Processor.{HasFaultNumber, word_at}
use Rattle.pp_processor.specs.declared.{block.Block.Block, need.Need.Need, pp_state.PpState.PpState}
use Rattle.pp_processor.specs.declared.need.Need.TheVariants.{Channel}
use Rattle.pp_processor.specs.declared.pp_state.PpState.TheVariants.{Running}
use Rattle.pp_text.specs.Differences.{differs, places}
use Rattle.pp_text.specs.InstructionText.{is_long, running_instruction}
use Rattle.pp_text.specs.PrintedText.{padded}
use Rattle.pp_steps.specs.declared.{choice.Choice.Choice, cursor.LineKind.LineKind}
use Rattle.pp_steps.specs.declared.cursor.LineKind.TheVariants.{NoLine, OneStep, HeldSteps}
use Rattle.pp_steps.specs.Choice.{chosen_steps}
use Rattle.pp_steps.specs.StepsText.{StepWithLine, with_lines}
use Rattle.pp_steps.specs.StepsWhere.{alone}

-- what a step did on a channel: it made an event, or else saw flags
pub data OnChannel : Type 0 where
  Made : Event → OnChannel
  Saw : Flags → OnChannel

-- a step: its turn, the processor, P, and the word there, if no block is in progress, with the
-- second word of a long instruction; the instruction, in thirteen columns; A after the step; the
-- places and the addresses whose words it changed, each with the new word; the channel, with the
-- event made or the flags seen; the state after it. Or steps held in a row: the channel, its flags,
-- their count
pub record ShownStep : Type 0 where
  pub turn : ℕ
  pub processor : ℕ
  pub p : ℕ
  pub words : Option (ℕ × Option ℕ)
  pub instruction : List ℕ
  pub a : ℕ
  pub places : List (ℕ × ℕ)
  pub central : List (ℕ × ℕ)
  pub channel : Option (ℕ × OnChannel)
  pub state : PpState
  pub held : Option (ℕ × (Flags × ℕ))

abbrev pub words_shown : Option Block → ℕ → ℕ → Option (ℕ × Option ℕ)
words_shown None word m = Some (word, if is_long word then Some m else None)
words_shown (Some block) word m = None

-- what is at the places, or addresses, where two memories differ
abbrev pub changes_shown : List ℕ → List ℕ → List ℕ → List (ℕ × ℕ)
changes_shown before after places =
    map (λ place. (place, slice_index after place)) (filter (differs before after) places)

abbrev pub event_shown : Option Event → Flags → OnChannel
event_shown (Some e) flags = Made e
event_shown None flags = Saw flags

abbrev pub channel_shown : Need → MachineState → Option (ℕ × OnChannel)
channel_shown (Channel c operation) m =
    Some (c, event_shown (event_of operation (history_of c m)) (flags_of (history_of c m)))
channel_shown need m = None

abbrev pub hold_shown : Need → MachineState → ℕ → Option (ℕ × (Flags × ℕ))
hold_shown (Channel c operation) m count = Some (c, (flags_of (history_of c m), count))
hold_shown need m count = None

-- one step of processor n from one machine to another
abbrev pub step_shown : ℕ → MachineState → MachineState → ShownStep
step_shown n before after =
    let old = processor_of n before in
    let new = processor_of n after in record {
      turn = before.turns;
      processor = n;
      p = old.p;
      words = words_shown old.block (word_at old old.p) (word_at old (next_place old.p));
      instruction = padded 13 (running_instruction old);
      a = new.a;
      places = changes_shown old.memory new.memory places;
      central = changes_shown before.central after.central
          (range_with_len 0 (length after.central));
      channel = channel_shown (need old) before;
      state = new.state;
      held = None;
    }

-- held steps of processor n, by the machine before the first
abbrev pub held_shown : ℕ → MachineState → ℕ → ShownStep
held_shown n m count =
    let pp = processor_of n m in record {
      turn = m.turns;
      processor = n;
      p = pp.p;
      words = words_shown pp.block (word_at pp pp.p) (word_at pp (next_place pp.p));
      instruction = padded 13 (running_instruction pp);
      a = pp.a;
      places = [];
      central = [];
      channel = None;
      state = Running;
      held = hold_shown (need pp) m count;
    }

abbrev pub kind_shown : LineKind → ℕ → MachineState → List ShownStep
kind_shown NoLine n m = []
kind_shown OneStep n m = step_shown n m (stepped n m) ∷ []
kind_shown (HeldSteps count) n m = held_shown n m count ∷ []

abbrev pub line_shown : StepWithLine → List ShownStep
line_shown x = kind_shown x.line x.step.processor x.step.before

-- all that the text of some steps shows, line by line
abbrev pub steps_shown : Choice → List ℕ → MachineState → List ShownStep
steps_shown choice steps load = flat_map line_shown (with_lines (chosen_steps choice steps load))

-- and that of the text of those that meet a condition, by these
abbrev pub alone_shown : List RunStep → List ShownStep
alone_shown those = flat_map line_shown (map alone those)

-- ---- what fits its columns

abbrev pub IsWordAt : ℕ → ℕ → ℕ × ℕ → Type 0
IsWordAt places words (place, word) = (place < places) × (word < words)

-- a channel that is not active has no word
abbrev pub FitsChannel : OnChannel → Type 0
FitsChannel (Made e) = HasTwelveBitWord e
FitsChannel (Saw flags) = flags.active ≡ false → flags.full ≡ false

-- registers and words of the machine's widths, addresses of six octal digits, fewer than 10^10
-- steps
pub record FitsItsStepLine (s : ShownStep) : Type 0 where
  pub turn : s.turn < 2 ^ 64
  pub processor : IsTrue (names_processor s.processor)
  pub p : s.p < 2 ^ 12
  pub words : IfSome s.words (λ (word, second). (word < 2 ^ 12) × IfSome second (λ m. m < 2 ^ 12))
  pub instruction : length s.instruction ≡ 13
  pub a : s.a < 2 ^ 18
  pub places : All (IsWordAt (2 ^ 12) (2 ^ 12)) s.places
  pub central : All (IsWordAt (2 ^ 18) (2 ^ 60)) s.central
  pub channel : IfSome s.channel (λ (c, said). IsTrue (names_channel c) × FitsChannel said)
  pub state : HasFaultNumber s.state
  pub held : IfSome s.held (λ (c, (flags, count)). IsTrue (names_channel c)
      × (FitsChannel (Saw flags) × (count < 10 ^ 10)))
