-- Where a processor is, and where an operation on a channel leaves it that makes no event: by its
-- answer, and by registers alone.
use Rattle.std.specs.Prelude.{◌≡◌, ℕ, Bool, false, not, ◌==◌, ◌&&◌, Option, None, Some, is_some, if◌then◌else◌}
use Rattle.pp_word.specs.Address.{next_place, place_after}
use Rattle.pp_channel.specs.Answer.{reply_shown}
use Rattle.pp_channel.specs.declared.{chan_op.ChanOp.ChanOp, flags.Flags.Flags}
use Rattle.pp_processor.specs.Foreseen.{jumps_at}
use Rattle.pp_processor.specs.NeedAndEffect.{need, processor_after}
use Rattle.pp_processor.specs.Operand.{operation, second_word}
use Rattle.pp_processor.specs.Processor.{Processor, word_at}
use Rattle.pp_processor.specs.declared.{answer.Answer.Answer, block.Block.Block, block.BlockKind.BlockKind, position.Position.Position}
use Rattle.pp_processor.specs.declared.block.BlockKind.TheVariants.{Input, Output}
use Rattle.pp_processor.specs.declared.need.Need.TheVariants.{Channel}

-- the processor asks an operation of a channel
abbrev pub AsksChannel : Processor → ChanOp → Type 0
AsksChannel pp op = (c : ℕ) × (need pp ≡ Channel c op)

-- a processor after its operation on a channel with these flags, if it makes no event
abbrev pub shown_to : ChanOp → Processor → Flags → Processor
shown_to op pp flags =
    processor_after pp (Answer.Channel (reply_shown op (record { flags = flags; register = None })))

-- A processor's position: P, and whether it is in a block. Two outcomes of one operation that makes
-- no event differ in it, if they differ at all.
abbrev pub position_of : Processor → Position
position_of pp = record { p = pp.p; in_block = is_some pp.block }

abbrev pub is_same : Position → Position → Bool
is_same one other =
    one.p == other.p && (if one.in_block then other.in_block else not other.in_block)

-- the position of a processor after its operation on a channel with these flags
abbrev pub position_at : ChanOp → Processor → Flags → Position
position_at op pp flags = position_of (shown_to op pp flags)

abbrev pub branch_position : Processor → Flags → Position
branch_position pp f = record {
  p = if jumps_at (operation pp) f then second_word pp else place_after pp.p 2;
  in_block = is_some pp.block;
}

-- after a block that an inactive channel ends: an input stores a word 0 first
abbrev pub cut_position : BlockKind → ℕ → Processor → Position
cut_position (Input channel) place pp =
    record { p = next_place (if place == 0 then 0 else word_at pp 0); in_block = false }
cut_position (Output channel) place pp =
    record { p = next_place (word_at pp 0); in_block = false }
cut_position kind place pp = position_of pp

abbrev pub held_position : Option Block → Processor → Flags → Position
held_position None pp f = position_of pp
held_position (Some block) pp f =
    if f.active then position_of pp else cut_position block.kind block.place pp

abbrev pub position_shown : ChanOp → Processor → Flags → Position
position_shown ChanOp.Probe pp f = branch_position pp f
position_shown op pp f = held_position pp.block pp f
