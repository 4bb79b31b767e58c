-- Steps of what prints.
use Rattle.std.proofs.Common.{◌≡◌, ◌≢◌, ℕ, ◌-◌, ◌/◌, ◌%◌, ◌^◌, ◌<◌, List, ◌++◌, refl, append_assoc, arith, codes}
use Rattle.pp_channel.specs.Answer.{flags_of}
use Rattle.pp_channel.specs.declared.{chan_op.ChanOp.ChanOp, flags.Flags.Flags}
use Rattle.pp_machine.specs.MachineState.{MachineState, history_of, processor_of}
use Rattle.pp_machine.specs.MachineStep.{step_outcome}
use Rattle.pp_processor.specs.NeedAndEffect.{need}
use Rattle.pp_processor.specs.declared.need.Need.TheVariants.{Channel}
use Rattle.pp_processor.specs.declared.outcome.Outcome.TheVariants.{Held}
use Rattle.pp_machine.specs.declared.trace.Trace.{Trace}
use Rattle.pp_word.specs.Numeral.{decimal, digit, digits, octal, unpadded}
use Rattle.pp_text.specs.Standing.{channel_held_text, held_text}
use Rattle.pp_text.specs.PrintedText.{event_line, event_text, line_end}

-- a number that is not 0 ends with its last digit
pub unpadded_more : (most n : ℕ) → 0 < most → n ≢ 0 → unpadded most n ≡ unpadded (most - 1) (n / 10) ++ digit (n % 10)
unpadded_more most n h k = grind arith

-- the line of an event: what stands before the last six digits of its turn, those digits and the numbers, the event
pub event_line_in_pieces : (upper heading tail : List ℕ) (e : Trace) → upper ≡ unpadded 14 (e.turn / 10 ^ 6)
    → heading ≡ digits 10 6 (e.turn % 10 ^ 6) ++ codes " PP" ++ octal 2 e.pp ++ codes " CH" ++ octal 2 e.channel ++ codes " "
    → tail ≡ event_text e.event ++ line_end
    → (upper ++ heading) ++ tail ≡ event_line e
unfolding event_line decimal
event_line_in_pieces upper heading tail e u h t = rw (u, h, t) (simp append_assoc)

-- the text of a channel that holds a processor
pub held_is : (n c : ℕ) (op : ChanOp) (m : MachineState) (count : ℕ) (flags : Flags) → need (processor_of n m) ≡ Channel c op → step_outcome n m ≡ Held → flags ≡ flags_of (history_of c m)
    → channel_held_text c flags count ≡ held_text (need (processor_of n m)) (step_outcome n m) m count
held_is n c op m count flags needs is_held are = rw (needs, is_held, are) refl
