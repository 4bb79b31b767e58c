-- The line of a step, by the machine before and after it.
use Rattle.std.specs.Prelude.{ℕ, List, [], ◌++◌, Option, None, Some, codes, length, slice_index, if◌then◌else◌}
use Rattle.std.specs.List.{flat_map, range_with_len}
use Rattle.pp_word.specs.Address.{next_place}
use Rattle.pp_channel.specs.Answer.{event_of, flags_of}
use Rattle.pp_channel.specs.declared.{event.Event.Event, flags.Flags.Flags}
use Rattle.pp_machine.specs.MachineState.{MachineState, history_of, processor_of}
use Rattle.pp_processor.specs.NeedAndEffect.{need}
use Rattle.pp_processor.specs.Processor.{Processor, word_at}
use Rattle.pp_processor.specs.declared.{block.Block.Block, need.Need.Need, pp_state.PpState.PpState}
use Rattle.pp_processor.specs.declared.need.Need.TheVariants.{Channel}
use Rattle.pp_processor.specs.declared.outcome.Outcome.TheVariants.{Held}
use Rattle.pp_processor.specs.declared.pp_state.PpState.TheVariants.{Running}
use Rattle.pp_text.specs.InstructionText.{is_long, running_instruction}
use Rattle.pp_text.specs.PrintedText.{padded, event_text, line_end, state_text}
use Rattle.pp_word.specs.Numeral.{decimal, octal}
use Rattle.pp_text.specs.Differences.{differs, places}
use Rattle.pp_text.specs.Standing.{flags_text, held_text}

-- `7105 0300`: a word, and the next if the instruction has two; a block in progress reads none
abbrev pub words_text : Option Block → ℕ → ℕ → List ℕ
words_text None word m =
    if is_long word then octal 4 word ++ codes " " ++ octal 4 m else octal 4 word
words_text (Some block) word m = []

-- `000021 PP01 0201 7105 0300  IAM 0300,05   A=000004`: turn, processor, P, words, instruction, A
abbrev pub heading : ℕ → ℕ → Processor → ℕ → List ℕ
heading turn n pp a = decimal turn ++ codes " PP" ++ octal 2 n ++ codes " " ++ octal 4 pp.p
    ++ codes " " ++ padded 9 (words_text pp.block (word_at pp pp.p) (word_at pp (next_place pp.p)))
    ++ codes "  " ++ padded 13 (running_instruction pp) ++ codes " A=" ++ octal 6 a

-- ` (0300)=0001`, where the word at a place differs
abbrev pub place_text : List ℕ → List ℕ → ℕ → List ℕ
place_text before after place = if differs before after place
    then codes " (" ++ octal 4 place ++ codes ")=" ++ octal 4 (slice_index after place) else []

abbrev pub places_text : List ℕ → List ℕ → List ℕ
places_text before after = flat_map (place_text before after) places

-- ` CM 000100=00060007001000110012`, where the central word at an address differs
abbrev pub central_text : List ℕ → List ℕ → ℕ → List ℕ
central_text before after a = if differs before after a
    then codes " CM " ++ octal 6 a ++ codes "=" ++ octal 20 (slice_index after a) else []

abbrev pub centrals_text : List ℕ → List ℕ → List ℕ
centrals_text before after = flat_map (central_text before after) (range_with_len 0 (length after))

-- `PUT 0007`, the event that was made, or the flags that were seen where there was none
abbrev pub event_or_flags : Option Event → Flags → List ℕ
event_or_flags (Some e) flags = event_text e
event_or_flags None flags = flags_text flags

-- ` CH05 PUT 0007`, where a channel is needed
abbrev pub channel_text : Need → MachineState → List ℕ
channel_text (Channel c operation) m = codes " CH" ++ octal 2 c
    ++ codes " " ++ event_or_flags (event_of operation (history_of c m)) (flags_of (history_of c m))
channel_text need m = []

-- ` STOPPED`, where the processor goes on no more
abbrev pub end_text : PpState → List ℕ
end_text Running = []
end_text state = codes " " ++ state_text state

-- the line of a step of processor n from one machine to another
unfoldable pub step_line : ℕ → MachineState → MachineState → List ℕ
step_line n before after =
    let old = processor_of n before in
    let new = processor_of n after in
    heading before.turns n old new.a ++ places_text old.memory new.memory
    ++ centrals_text before.central after.central ++ channel_text (need old) before
    ++ end_text new.state ++ line_end

-- the line of a number of held steps in a row of processor n, by the machine before the first
unfoldable pub held_line : ℕ → MachineState → ℕ → List ℕ
held_line n m count =
    let pp = processor_of n m in
    heading m.turns n pp pp.a ++ held_text (need pp) Held m count ++ line_end
