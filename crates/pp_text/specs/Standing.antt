-- How a processor stands: its state, the instruction that runs, and the channel that holds it.
use Rattle.std.specs.Prelude.{ℕ, ◌==◌, List, [], ◌++◌, Option, None, Some, codes, if◌then◌else◌}
use Rattle.pp_channel.specs.Answer.{flags_of}
use Rattle.pp_channel.specs.declared.flags.Flags.{Flags}
use Rattle.pp_machine.specs.MachineState.{MachineState, history_of, processor_of}
use Rattle.pp_machine.specs.MachineStep.{step_outcome}
use Rattle.pp_processor.specs.NeedAndEffect.{need}
use Rattle.pp_processor.specs.declared.{block.Block.Block, need.Need.Need, outcome.Outcome.Outcome}
use Rattle.pp_processor.specs.declared.need.Need.TheVariants.{Channel}
use Rattle.pp_processor.specs.declared.outcome.Outcome.TheVariants.{Held}
use Rattle.pp_text.specs.InstructionText.{running_instruction}
use Rattle.pp_word.specs.Numeral.{octal, unpadded}
use Rattle.pp_text.specs.PrintedText.{state_text}

-- ` BLOCK 0302`: the next place of a block in progress. Only a running processor is in a block
abbrev pub block_place_text : Option Block → List ℕ
block_place_text None = []
block_place_text (Some block) = codes " BLOCK " ++ octal 4 block.place

-- `ACTIVE FULL`
abbrev pub flags_text : Flags → List ℕ
flags_text flags = if flags.active
    then (if flags.full then codes "ACTIVE FULL" else codes "ACTIVE EMPTY") else codes "INACTIVE"

-- ` x376`, a count in decimal, if it is not 0
abbrev pub count_text : ℕ → List ℕ
count_text count = if count == 0 then [] else codes " x" ++ unpadded 10 count

-- ` HELD CH01 ACTIVE EMPTY x376`: channel c at these flags holds a processor; this many of its last
-- steps in a row were held
abbrev pub channel_held_text : ℕ → Flags → ℕ → List ℕ
channel_held_text c flags count =
    codes " HELD CH" ++ octal 2 c ++ codes " " ++ flags_text flags ++ count_text count

-- the same, if the next step, which has this need, is held
abbrev pub held_text : Need → Outcome → MachineState → ℕ → List ℕ
held_text (Channel c operation) Held m count = channel_held_text c (flags_of (history_of c m)) count
held_text need outcome m count = []

-- `RUNNING IAN 01 HELD CH01 ACTIVE EMPTY x376`
abbrev pub standing : ℕ → MachineState → ℕ → List ℕ
standing n m count =
    let pp = processor_of n m in
    state_text pp.state ++ codes " " ++ running_instruction pp ++ block_place_text pp.block
    ++ held_text (need pp) (step_outcome n m) m count
