-- What is foreseen of an instruction can happen: some contents of A and some answer bring it about.
use Rattle.std.specs.Prelude.{◌≡◌, ℕ, true, ◌<◌, ◌^◌, ◌⊎◌, Option, None, Some, IfSome, IsSome}
use Rattle.pp_word.specs.Address.{place_after}
use Rattle.pp_word.specs.Opcode.{length_of}
use Rattle.pp_processor.specs.Block.{ends}
use Rattle.pp_processor.specs.Foreseen.{jump_from, may_go_on, sure_fault}
use Rattle.pp_processor.specs.NeedAndEffect.{need, outcome, processor_after}
use Rattle.pp_processor.specs.Operand.{lower_six, operation, second_word}
use Rattle.pp_processor.specs.Processor.{IsAtFault, Processor}
use Rattle.pp_processor.specs.Replay.{fits}
use Rattle.pp_processor.specs.declared.{answer.Answer.Answer, outcome.Outcome.Outcome}
use Rattle.pp_processor.specs.declared.pp_state.PpState.TheVariants.{Running, Stopped}

abbrev pub with_a : ℕ → Processor → Processor
with_a a pp = record pp { a = a }

-- With some contents of A, some answer that fits moves the processor on, and leaves it such.
pub record CanBecome (pp : Processor) (Such : Processor → Type 0) : Type 0 where
  pub a : ℕ
  pub answer : Answer
  pub of_18_bits : a < 2 ^ 18
  pub fits : fits (need (with_a a pp)) answer ≡ true
  pub moves : outcome (with_a a pp) answer ≡ Outcome.Moved
  pub becomes : Such (processor_after (with_a a pp) answer)

-- it runs on, with P behind the instruction; or a block has begun, whose end would take P there
abbrev pub HasGoneOn : ℕ → Processor → Type 0
HasGoneOn behind pp = (pp.state ≡ Running)
    × (((pp.block ≡ None) × (pp.p ≡ behind)) ⊎ (IsSome pp.block × ((ends pp).p ≡ behind)))

-- P is at the target of a jump, in no block, and it runs on; or it stops, if it jumped to itself
abbrev pub HasJumped : ℕ → ℕ → Processor → Type 0
HasJumped place target pp = (pp.p ≡ target) × (pp.block ≡ None)
    × ((pp.state ≡ Running) ⊎ ((pp.state ≡ Stopped) × (target ≡ place)))

-- What is foreseen of the instruction at P can happen: that it goes on; that it leads to a place,
-- also if its second word is not known; and, where no fault is foreseen, that there is none.
pub record CanHappen (pp : Processor) : Type 0 where
  pub goes_on : may_go_on pp.profile (operation pp) (lower_six pp) ≡ true
      → CanBecome pp (HasGoneOn (place_after pp.p (length_of (operation pp))))
  pub jumps : (m : Option ℕ) (target : ℕ) → IfSome m (λ word. word ≡ second_word pp)
      → jump_from pp.profile (operation pp) pp.p (lower_six pp) m ≡ Some target
      → CanBecome pp (HasJumped pp.p target)
  pub lacks_fault : sure_fault pp.profile (operation pp) (lower_six pp) ≡ None
      → CanBecome pp (λ after. ¬ IsAtFault after)
