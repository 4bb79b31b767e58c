-- The line of a step, put together from its parts.
use Rattle.std.proofs.Common.{get_or-set_same, ◌≡◌, ℕ, ◌/◌, ◌%◌, ◌^◌, ◌<◌, List, ◌++◌, codes, length, [], refl, true, false, append_assoc}
use Rattle.pp_word.specs.Address.{next_place}
use Rattle.pp_channel.specs.declared.chan_op.ChanOp.{ChanOp}
use Rattle.pp_processor.specs.declared.need.Need.{Need}
use Rattle.pp_processor.specs.declared.need.Need.TheVariants.{Channel}
use Rattle.pp_processor.specs.declared.outcome.Outcome.TheVariants.{Held}
use Rattle.pp_text.specs.Standing.{held_text}
use Rattle.pp_machine.specs.MachineState.{MachineState, processor_of}
use Rattle.pp_machine.specs.MachineStep.{answer_to, central_after, stepped}
use Rattle.pp_numbers.specs.PpNo.{processor_index}
use Rattle.pp_processor.specs.NeedAndEffect.{need, processor_after}
use Rattle.pp_processor.specs.Processor.{Processor, is_running, no_processor, word_at}
use Rattle.pp_processor.specs.declared.pp_state.PpState.{PpState}
use Rattle.pp_processor.specs.declared.pp_state.PpState.TheVariants.{Fault, Running, Stopped}
use Rattle.pp_text.specs.InstructionText.{running_instruction}
use Rattle.pp_text.specs.PrintedText.{padded, state_text}
use Rattle.pp_word.specs.Numeral.{decimal, digits, octal, unpadded}
use Rattle.pp_steps.specs.StepLine.{end_text, heading, words_text}

-- the turn, the processor and P, the words, the instruction, A
pub heading_in_pieces : (upper first words instruction last : List ℕ) (turn n : ℕ) (pp : Processor) (a : ℕ) → upper ≡ unpadded 14 (turn / 10 ^ 6)
    → first ≡ digits 10 6 (turn % 10 ^ 6) ++ codes " PP" ++ octal 2 n ++ codes " " ++ octal 4 pp.p ++ codes " "
    → words ≡ padded 9 (words_text pp.block (word_at pp pp.p) (word_at pp (next_place pp.p))) ++ codes "  "
    → instruction ≡ padded 13 (running_instruction pp)
    → last ≡ codes " A=" ++ octal 6 a
    → upper ++ first ++ words ++ instruction ++ last ≡ heading turn n pp a
unfolding decimal
heading_in_pieces upper first words instruction last turn n pp a u f w i l = rw (u, f, w, i, l) (simp append_assoc)

-- a processor after its step
pub stepped_processor : (n : ℕ) (m : MachineState) → processor_index n < length m.processors → processor_of n (stepped n m) ≡ processor_after (processor_of n m) (answer_to (need (processor_of n m)) m)
unfolding stepped
stepped_processor n m within = get_or-set_same m.processors (processor_index n) (processor_after (processor_of n m) (answer_to (need (processor_of n m)) m)) no_processor within

-- central memory after a step
pub stepped_central : (n : ℕ) (m : MachineState) → (stepped n m).central ≡ central_after (need (processor_of n m)) m
unfolding stepped
stepped_central n m = refl

-- no channel is needed
pub not_held : (x : Need) (m : MachineState) (count : ℕ) → ((c : ℕ) (operation : ChanOp) → x ≡ Channel c operation → ⊥) → held_text x Held m count ≡ []
not_held (Channel c operation) m count other = absurd (other c operation refl)
not_held x m count other = refl

-- a processor that goes on no more, and one that goes on
pub end_told : (state : PpState) → is_running state ≡ false → codes " " ++ state_text state ≡ end_text state
end_told Running e = absurd (cc)
end_told Stopped e = refl
end_told (Fault number) e = refl

pub no_end : (state : PpState) → is_running state ≡ true → [] ≡ end_text state
no_end Running e = refl
no_end Stopped e = absurd (cc)
no_end (Fault number) e = absurd (cc)
