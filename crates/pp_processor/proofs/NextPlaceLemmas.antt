-- Where a step leaves P, by the table of instructions.
use Rattle.std.proofs.Common.{◌≡◌, ℕ, Bool, true, false, Option, Some, None, length, inl, inr, refl, sym, ap, subst, ◌∙◌, arith, get_or-set_same}
use Rattle.std.specs.Prelude.{◌⊎◌, ◌==◌, ◌&&◌, not, is_some, if◌then◌else◌}
use Rattle.pp_word.specs.Address.{next_place, place_after, place_count, relative_to}
use Rattle.pp_word.specs.Opcode.{length_of}
use Rattle.pp_word.specs.declared.opcode.Opcode.{Opcode}
use Rattle.pp_word.specs.declared.opcode.Opcode.TheVariants.{LJM, RJM, UJN, ZJN, NJN, PJN, MJN, EXN, RPN, CRD, CRM, CWM, AJM, IJM, FJM, EJM, IAN, IAM, OAM}
use Rattle.pp_channel.specs.declared.reply.Reply.TheVariants as replies
use Rattle.pp_numbers.specs.Profile.{has_channel}
use Rattle.pp_processor.specs.Block.{ends, held, keeps_place, starts}
use Rattle.pp_processor.specs.Effect.{branches_where, faults, goes_to, is_negative, jumps_where, leads_to_itself}
use Rattle.pp_processor.specs.Foreseen.{MayComeTo, Reaches, jump_from, may_go_on}
use Rattle.pp_processor.specs.InstructionTable.{instruction, row, works_on_channel}
use Rattle.pp_processor.specs.NeedAndEffect.{answered, if_running, next_step, processor_after, step_of}
use Rattle.pp_processor.specs.Operand.{lower_six, operation, second_word}
use Rattle.pp_processor.specs.Processor.{IsProcessor, Processor}
use Rattle.pp_processor.specs.Step.{Step, local, probes, takes, does, reads, writes}
use Rattle.pp_processor.specs.declared.{answer.Answer.Answer, block.Block.Block, block.BlockKind.BlockKind, pp_state.PpState.PpState}
use Rattle.pp_processor.specs.declared.answer.Answer.TheVariants as answers
use Rattle.pp_processor.specs.declared.pp_state.PpState.TheVariants.{Running}
use Rattle.pp_processor.proofs.EachStep.{Leaves, either}

abbrev Comes : Opcode → Processor → ℕ → Processor → Type 0
Comes op pp d after = Reaches op pp d after.p

-- ---- the rows of the table

-- what is known of an instruction of the table
record InTable (op : Opcode) (pp : Processor) (d : ℕ) : Type 0 where
  long_memory : length pp.memory ≡ place_count
  has_one : (works_on_channel op && not (has_channel pp.profile d)) ≡ false

goes_by : (lacks : Bool) → lacks ≡ false → not (is_some {T = ℕ} (if lacks then Some 3 else None)) ≡ true
goes_by false is = refl
goes_by true is = absurd (cc)

abbrev GoesOn : Opcode → Processor → ℕ → Type 0
GoesOn op pp d = (works_on_channel op && not (has_channel pp.profile d)) ≡ false → may_go_on pp.profile op d ≡ true

on : (op : Opcode) (pp : Processor) (d : ℕ) → GoesOn op pp d → InTable op pp d → Reaches op pp d (place_after pp.p (length_of op))
on op pp d goes it = inr (inl (goes it.has_one, refl))

jumps : (test : Bool) (op : Opcode) (pp : Processor) (d : ℕ) → GoesOn op pp d → length_of op ≡ 1 → jump_from pp.profile op pp.p d (Some (second_word pp)) ≡ Some (relative_to pp.p d) → InTable op pp d
    → Comes op pp d (jumps_where test pp d 1)
jumps true op pp d goes short jump it = either (Comes op pp d) (leads_to_itself d) {one = pp} {other = goes_to pp (relative_to pp.p d)} (inl refl) (inr (inr (inl jump)))
jumps false op pp d goes short jump it = subst (λ n. Reaches op pp d (place_after pp.p n)) short (on op pp d goes it)

branches : (test : Bool) (op : Opcode) (pp : Processor) (d : ℕ) → GoesOn op pp d → length_of op ≡ 2 → jump_from pp.profile op pp.p d (Some (second_word pp)) ≡ Some (second_word pp) → InTable op pp d
    → Comes op pp d (branches_where test pp 2)
branches true op pp d goes long jump it = inr (inr (inl jump))
branches false op pp d goes long jump it = subst (λ n. Reaches op pp d (place_after pp.p n)) long (on op pp d goes it)

kept_place : (pp : Processor) → length pp.memory ≡ place_count → (ends (keeps_place pp)).p ≡ place_after pp.p 2
kept_place pp long = ap next_place (get_or-set_same pp.memory 0 (next_place pp.p) 0 (omega (arith, long))) ∙ omega arith

begins : (op : Opcode) (pp : Processor) (count d : ℕ) (kind : BlockKind) → GoesOn op pp d → length_of op ≡ 2 → InTable op pp d → Comes op pp d (starts pp count kind)
begins op pp count d kind goes long it =
    either (Comes op pp d) (count == 0) {one = ends (keeps_place pp)} (subst (Reaches op pp d) (ap (place_after pp.p) long ∙ sym (kept_place pp it.long_memory)) (on op pp d goes it)) (inl refl)

branch_of : (has : Bool) (second : ℕ) → not has ≡ false → (if has then Some second else None) ≡ Some second
branch_of true second has = refl
branch_of false second has = absurd (cc)

indexed_by : (zero_d : Bool) (other second : ℕ) → ((if zero_d then Some second else None) ≡ Some (if zero_d then second else other)) ⊎ (not zero_d ≡ true)
indexed_by true other second = inl refl
indexed_by false other second = inr refl

called_by : (zero_d : Bool) (other second : ℕ) → ((if zero_d then Some (next_place second) else None) ≡ Some (next_place (if zero_d then second else other))) ⊎ (not zero_d ≡ true)
called_by true other second = inl refl
called_by false other second = inr refl

row_comes : (op : Opcode) (pp : Processor) (d : ℕ) → InTable op pp d → Leaves (Comes op pp d) (row op pp d)
row_comes LJM pp d it = inr (inr (indexed_by (d == 0) _ (second_word pp)))
row_comes RJM pp d it = inr (inr (called_by (d == 0) _ (second_word pp)))
row_comes UJN pp d it = either (Comes UJN pp d) (leads_to_itself d) {other = goes_to pp (relative_to pp.p d)} (inl refl) (inr (inr (inl refl)))
row_comes ZJN pp d it = jumps (pp.a == 0) ZJN pp d (goes_by _) refl refl it
row_comes NJN pp d it = jumps (not (pp.a == 0)) NJN pp d (goes_by _) refl refl it
row_comes PJN pp d it = jumps (not (is_negative pp)) PJN pp d (goes_by _) refl refl it
row_comes MJN pp d it = jumps (is_negative pp) MJN pp d (goes_by _) refl refl it
row_comes EXN pp d it = inl refl
row_comes RPN pp d it = inl refl
row_comes CRD pp d it = λ word. on CRD pp d (goes_by _) it
row_comes CRM pp d it = begins CRM pp _ d _ (goes_by _) refl it
row_comes CWM pp d it = begins CWM pp _ d _ (goes_by _) refl it
row_comes AJM pp d it = λ flags. branches flags.active AJM pp d (goes_by _) refl (branch_of _ _ it.has_one) it
row_comes IJM pp d it = λ flags. branches (not flags.active) IJM pp d (goes_by _) refl (branch_of _ _ it.has_one) it
row_comes FJM pp d it = λ flags. branches flags.full FJM pp d (goes_by _) refl (branch_of _ _ it.has_one) it
row_comes EJM pp d it = λ flags. branches (not flags.full) EJM pp d (goes_by _) refl (branch_of _ _ it.has_one) it
row_comes IAN pp d it = λ word. on IAN pp d (goes_by _) it
row_comes IAM pp d it = begins IAM pp _ d _ (goes_by _) refl it
row_comes OAM pp d it = begins OAM pp _ d _ (goes_by _) refl it
row_comes op pp d it = on op pp d (goes_by _) it

by_channel : (lacks : Bool) (op : Opcode) (pp : Processor) (d : ℕ) → (works_on_channel op && not (has_channel pp.profile d)) ≡ lacks
    → length pp.memory ≡ place_count → Leaves (Comes op pp d) (if lacks then local (faults pp 3) else row op pp d)
by_channel true op pp d lacks long = inl refl
by_channel false op pp d lacks long = row_comes op pp d (record { long_memory = long; has_one = lacks })

-- ---- the answer to a step

module _ (Q : ℕ → Type 0) (pp : Processor) (free : pp.block ≡ None) (stay : Q pp.p) where
  free_step : (block : Option Block) → block ≡ None → Leaves (λ after. Q after.p) (instruction (operation pp) pp (lower_six pp)) → Leaves (λ after. Q after.p) (step_of block pp)
  free_step None is k = k
  free_step (Some block) is k = absurd (cc)

  answered_comes : (step : Step) (answer : Answer) → Leaves (λ after. Q after.p) step → Q (answered step pp answer).p
  answered_comes (takes channel after) (answers.Channel (replies.Held flags)) k = subst (λ b. Q (held b pp flags).p) (sym free) stay
  answered_comes (does channel op after) (answers.Channel (replies.Held flags)) k = subst (λ b. Q (held b pp flags).p) (sym free) stay
  answered_comes (local after) answers.Local k = k
  answered_comes (probes channel after) (answers.Channel (replies.Flags flags)) k = k flags
  answered_comes (takes channel after) (answers.Channel (replies.Word word)) k = k word
  answered_comes (does channel op after) (answers.Channel replies.Done) k = k
  answered_comes (reads address after) (answers.Read (Some word)) k = k word
  answered_comes (writes address word after) (answers.Wrote true) k = k
  answered_comes step answer k = stay

  if_running_comes : (state : PpState) (after : Processor) → Q after.p → Q (if_running state after pp).p
  if_running_comes Running after k = k
  if_running_comes state after k = stay

pub comes_to : (pp : Processor) (answer : Answer) → IsProcessor pp → pp.block ≡ None → MayComeTo pp (processor_after pp answer).p
unfolding processor_after
comes_to pp answer is free =
    let Q : ℕ → Type 0 = Reaches (operation pp) pp (lower_six pp) in
    let stay : Q pp.p = inl refl in
    let step : Leaves (λ after. Q after.p) (next_step pp) = free_step Q pp free stay pp.block free (by_channel _ (operation pp) pp (lower_six pp) refl is.memory.each_place) in
    if_running_comes Q pp free stay pp.state _ (answered_comes Q pp free stay (next_step pp) answer step)
