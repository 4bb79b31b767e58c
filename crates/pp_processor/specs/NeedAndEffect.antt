-- What a processor's next step needs from outside, what its answer leaves, and the outcome.
use Rattle.std.specs.Prelude.{◌≡◌, Bool, true, false, Option, None, Some, if◌then◌else◌}
use Rattle.pp_channel.specs.declared.{flags.Flags.Flags, reply.Reply.Reply}
use Rattle.pp_processor.specs.Block.{block_word, held}
use Rattle.pp_processor.specs.Effect.{faults}
use Rattle.pp_processor.specs.InstructionTable.{instruction}
use Rattle.pp_processor.specs.Operand.{operation, lower_six}
use Rattle.pp_processor.specs.Processor.{Processor, past_central_memory}
use Rattle.pp_processor.specs.Step.{Step, need_of, local, probes, takes, does, reads, writes}
use Rattle.pp_processor.specs.declared.{answer.Answer.Answer, block.Block.Block, need.Need.Need, outcome.Outcome.Outcome, pp_state.PpState.PpState}
use Rattle.pp_processor.specs.declared.answer.Answer.TheVariants.{Local, Channel, Read, Wrote}
use Rattle.pp_processor.specs.declared.pp_state.PpState.TheVariants.{Running}

-- the next step of a running processor: the next word of its block, else the instruction at P
abbrev pub step_of : Option Block → Processor → Step
step_of None pp = instruction (operation pp) pp (lower_six pp)
step_of (Some block) pp = block_word block.kind block.place pp

abbrev pub next_step : Processor → Step
next_step pp = step_of pp.block pp

-- the processor after an answer to a step: a fault if central memory has no such address, and a
-- channel that was not ready holds what it was to give, take or do; no other answer fits
abbrev pub answered : Step → Processor → Answer → Processor
answered (local after) pp Local = after
answered (probes channel after) pp (Channel (Reply.Flags flags)) = after flags
answered (takes channel after) pp (Channel (Reply.Word word)) = after word
answered (does channel operation after) pp (Channel Reply.Done) = after
answered (reads address after) pp (Read (Some central)) = after central
answered (reads address after) pp (Read None) = faults pp past_central_memory
answered (writes address word after) pp (Wrote true) = after
answered (writes address word after) pp (Wrote false) = faults pp past_central_memory
answered (takes channel after) pp (Channel (Reply.Held flags)) = held pp.block pp flags
answered (does channel operation after) pp (Channel (Reply.Held flags)) = held pp.block pp flags
answered step pp answer = pp

-- an answer by which a channel was not ready
abbrev pub IsHeldAnswer : Answer → Type 0
IsHeldAnswer answer = (flags : Flags) × (answer ≡ Channel (Reply.Held flags))

-- a channel that was not ready holds an instruction, and a block only if it is active
abbrev pub is_held : Option Block → Answer → Bool
is_held None (Channel (Reply.Held flags)) = true
is_held (Some block) (Channel (Reply.Held flags)) = flags.active
is_held block answer = false

-- only a running processor has a next step: the first if it runs, else the second
abbrev pub if_running : {X : Type 0} → PpState → X → X → X
if_running Running step rest = step
if_running state step rest = rest

-- what the next step needs: nothing if there is none
unfoldable pub need : Processor → Need
need pp = if_running pp.state (need_of (next_step pp)) Need.Nothing

-- the processor after the answer to its next step
unfoldable pub processor_after : Processor → Answer → Processor
processor_after pp answer = if_running pp.state (answered (next_step pp) pp answer) pp

-- what the answer did
unfoldable pub outcome : Processor → Answer → Outcome
outcome pp answer = if_running pp.state
    (if is_held pp.block answer then Outcome.Held else Outcome.Moved) Outcome.AtRest
