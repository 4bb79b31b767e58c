-- Where an operation that makes no event leaves a processor: its position is told by its registers
-- alone, and it changes no more than its position tells.
use Rattle.std.proofs.Common.{◌≡◌, ℕ, Bool, true, false, List, length, get_or, inl, inr, Option, Some, None, refl, sym, ap, ◌∙◌, subst}
use Rattle.std.proofs.Math.Path.{fun_ext}
use Rattle.std.specs.Prelude.{◌&&◌, ◌==◌, ◌⊎◌, not, is_some, slice_index, slice_set, if◌then◌else◌}
use Rattle.std.proofs.lemmas.Bool.{cases_eq, cases_lt, ne_eqb, and_parts, and_from, eq-eqb, eqb-true}
use Rattle.std.proofs.lemmas.List.{get_or-set_other, get_or-set_same, get_or_past, set_past}
use Rattle.pp_channel.specs.Answer.{only_looks, reply_shown}
use Rattle.pp_channel.specs.declared.{chan_op.ChanOp.ChanOp, flags.Flags.Flags}
use Rattle.pp_word.specs.Address.{next_place, place_after}
use Rattle.pp_word.specs.Opcode.{length_of}
use Rattle.pp_word.specs.declared.opcode.Opcode.{Opcode}
use Rattle.pp_word.specs.declared.opcode.Opcode.TheVariants.{AJM, IJM, FJM, EJM, OAN, ACN, DCN, FAN, FNC}
use Rattle.pp_processor.specs.Block.{block_word, cut_short, held}
use Rattle.pp_processor.specs.Effect.{branches_where}
use Rattle.pp_processor.specs.InstructionTable.{table, works_on_channel}
use Rattle.pp_processor.specs.NeedAndEffect.{answered, if_running, need, next_step, processor_after, step_of}
use Rattle.pp_processor.specs.Operand.{lower_six, operation, second_word}
use Rattle.pp_processor.specs.Processor.{Processor, word_at}
use Rattle.pp_numbers.specs.Profile.{has_channel}
use Rattle.pp_processor.specs.Foreseen.{jumps_at}
use Rattle.pp_processor.specs.Positions.{cut_position, held_position, is_same, position_at, position_of, position_shown, shown_to}
use Rattle.pp_processor.specs.declared.position.Position.{Position}
use Rattle.pp_processor.specs.Step.{Step, need_of, local, probes, takes, does}
use Rattle.pp_processor.specs.declared.{answer.Answer.Answer, block.Block.Block, block.BlockKind.BlockKind, need.Need.Need, pp_state.PpState.PpState}
use Rattle.pp_processor.specs.declared.block.BlockKind.TheVariants.{CentralIn, CentralOut, Input, Output}
use Rattle.pp_processor.specs.declared.need.Need.TheVariants.{Channel}
use Rattle.pp_processor.specs.declared.pp_state.PpState.TheVariants.{Running}

-- ---- a position that is the same

equal_bools : (a b : Bool) → (if a then b else not b) ≡ true → a ≡ b
equal_bools true true is = refl
equal_bools false false is = refl
equal_bools a b is = absurd cc

same_bool : (a : Bool) → (if a then a else not a) ≡ true
same_bool true = refl
same_bool false = refl

pub position_same : (one other : Position) → is_same one other ≡ true → (one.p ≡ other.p) × (one.in_block ≡ other.in_block)
position_same one other is =
    let parts = and_parts (one.p == other.p) (if one.in_block then other.in_block else not other.in_block) is in
    (eqb-true one.p other.p parts.0, equal_bools one.in_block other.in_block parts.1)

pub same_itself : (one : Position) → is_same one one ≡ true
same_itself one = and_from (one.p == one.p) (if one.in_block then one.in_block else not one.in_block) (eq-eqb one.p one.p refl) (same_bool one.in_block)

-- ---- what flags leave

-- what flags leave a processor, where its position tells it all
pub record Agrees (pp : Processor) (of : Flags → Processor) : Type 0 where
  pub alike : (f g : Flags) → is_same (position_of (of f)) (position_of (of g)) ≡ true → of f ≡ of g
  pub still : (f : Flags) → is_same (position_of (of f)) (position_of pp) ≡ true → of f ≡ pp

stays_agrees : (pp : Processor) → Agrees pp (λ f. pp)
stays_agrees pp = record { alike = λ f g is. refl; still = λ f is. refl }

-- ---- a branch moves P alone

abbrev at_p : Processor → ℕ → Processor
at_p pp p = record pp { p = p }

branch_alike : (pp : Processor) (n : ℕ) (a b : Bool) → (branches_where a pp n).p ≡ (branches_where b pp n).p → branches_where a pp n ≡ branches_where b pp n
branch_alike pp n true true is = refl
branch_alike pp n false false is = refl
branch_alike pp n true false is = ap (λ p. at_p pp p) is
branch_alike pp n false true is = ap (λ p. at_p pp p) is

branch_still : (pp : Processor) (n : ℕ) (a : Bool) → (branches_where a pp n).p ≡ pp.p → branches_where a pp n ≡ pp
branch_still pp n true is = ap (λ p. at_p pp p) is
branch_still pp n false is = ap (λ p. at_p pp p) is

branch_agrees : (pp : Processor) (n : ℕ) (test : Flags → Bool) → Agrees pp (λ f. branches_where (test f) pp n)
branch_agrees pp n test = record {
  alike = λ f g is. branch_alike pp n (test f) (test g) (position_same (position_of (branches_where (test f) pp n)) (position_of (branches_where (test g) pp n)) is).0;
  still = λ f is. branch_still pp n (test f) (position_same (position_of (branches_where (test f) pp n)) (position_of pp) is).0;
}

-- ---- a processor that is held stays, or its block ends

cut_apart : (kind : BlockKind) (place : ℕ) (pp : Processor) (block : Block) → pp.block ≡ Some block → is_some (cut_short kind place pp).block ≡ is_some pp.block → cut_short kind place pp ≡ pp
cut_apart (CentralIn left) place pp block in_block is = refl
cut_apart (CentralOut left) place pp block in_block is = refl
cut_apart other place pp block in_block is = (let bad : false ≡ true = is ∙ ap is_some in_block in absurd (cc))

held_alike : (pp : Processor) (block : Block) (a b : Bool) → pp.block ≡ Some block
    → is_some (if a then pp else cut_short block.kind block.place pp).block ≡ is_some (if b then pp else cut_short block.kind block.place pp).block
    → (if a then pp else cut_short block.kind block.place pp) ≡ (if b then pp else cut_short block.kind block.place pp)
held_alike pp block true true in_block is = refl
held_alike pp block false false in_block is = refl
held_alike pp block true false in_block is = sym (cut_apart block.kind block.place pp block in_block (sym is))
held_alike pp block false true in_block is = cut_apart block.kind block.place pp block in_block is

held_agrees : (pp : Processor) (b : Option Block) → pp.block ≡ b → Agrees pp (λ f. held b pp f)
held_agrees pp None in_block = stays_agrees pp
held_agrees pp (Some block) in_block = record {
  alike = λ f g is. held_alike pp block f.active g.active in_block (position_same (position_of (held (Some block) pp f)) (position_of (held (Some block) pp g)) is).1;
  still = λ f is. held_alike pp block f.active true in_block (position_same (position_of (held (Some block) pp f)) (position_of pp) is).1;
}

-- ---- each step

-- a step that tests flags branches by its operation, and no other operation only looks
abbrev Tests : Opcode → Processor → Step → Type 0
Tests op pp (probes channel after) = (f : Flags) → after f ≡ branches_where (jumps_at op f) pp 2
Tests op pp (does channel oper after) = only_looks oper ≡ false
Tests op pp step = Unit {0}

row_tests : (op : Opcode) (pp : Processor) (d : ℕ) → Tests op pp (table op pp d (length_of op))
row_tests OAN pp d = refl
row_tests ACN pp d = refl
row_tests DCN pp d = refl
row_tests FAN pp d = refl
row_tests FNC pp d = refl
row_tests AJM pp d = λ f. refl
row_tests IJM pp d = λ f. refl
row_tests FJM pp d = λ f. refl
row_tests EJM pp d = λ f. refl
row_tests op pp d = tt

unless_faults : (b : Bool) (op : Opcode) (pp fault : Processor) (step : Step) → Tests op pp step → Tests op pp (if b then local fault else step)
unless_faults true op pp fault step is = tt
unless_faults false op pp fault step is = is

block_tests : (kind : BlockKind) (place : ℕ) (op : Opcode) (pp : Processor) → Tests op pp (block_word kind place pp)
block_tests (Output channel) place op pp = refl
block_tests other place op pp = tt

step_tests : (b : Option Block) (pp : Processor) → Tests (operation pp) pp (step_of b pp)
step_tests None pp = unless_faults (works_on_channel (operation pp) && not (has_channel pp.profile (lower_six pp))) (operation pp) pp _ (table (operation pp) pp (lower_six pp) (length_of (operation pp))) (row_tests (operation pp) pp (lower_six pp))
step_tests (Some block) pp = block_tests block.kind block.place (operation pp) pp

-- What an operation that makes no event leaves of a processor: a probe branches, each other leaves
-- it held, or ends its block.
module _ (P : ChanOp → (Flags → Processor) → Type 0) (pp : Processor) (branches : P ChanOp.Probe (λ f. branches_where (jumps_at (operation pp) f) pp 2))
    (stays : (op : ChanOp) → only_looks op ≡ false → P op (λ f. held pp.block pp f)) where
  abbrev answered_at : Step → ChanOp → Flags → Processor
  answered_at step op f = answered step pp (Answer.Channel (reply_shown op (record { flags = f; register = None })))

  does_held : (channel : ℕ) (op : ChanOp) (after : Processor) → only_looks op ≡ false → P op (λ f. answered_at (does channel op after) op f)
  does_held channel ChanOp.Probe after is = absurd cc
  does_held channel op after is = stays op is

  left_by : (step : Step) (c : ℕ) (op : ChanOp) → need_of step ≡ Channel c op → Tests (operation pp) pp step → P op (λ f. answered_at step op f)
  left_by (probes channel after) c op e is =
      let probe : ChanOp.Probe ≡ op = cc in
      subst (λ (o : ChanOp). P o (λ f. answered_at (probes channel after) o f)) probe (subst (λ (of : Flags → Processor). P ChanOp.Probe of) (sym (fun_ext is)) branches)
  left_by (takes channel after) c op e is =
      let take : ChanOp.Take ≡ op = cc in
      subst (λ (o : ChanOp). P o (λ f. answered_at (takes channel after) o f)) take (stays ChanOp.Take refl)
  left_by (does channel oper after) c op e is =
      let same : oper ≡ op = cc in
      subst (λ (o : ChanOp). P o (λ f. answered_at (does channel oper after) o f)) same (does_held channel oper after is)
  left_by other c op e is = absurd cc

  by_state : (state : PpState) (c : ℕ) (op : ChanOp) → pp.state ≡ state → need pp ≡ Channel c op → P op (λ f. shown_to op pp f)
  unfolding need processor_after
  by_state Running c op is e = subst (λ (s : PpState). P op (λ f. if_running s (answered (next_step pp) pp (Answer.Channel (reply_shown op (record { flags = f; register = None })))) pp)) (sym is)
      (left_by (next_step pp) c op (sym (ap (λ (s : PpState). if_running s (need_of (next_step pp)) Need.Nothing) is) ∙ e) (step_tests pp.block pp))
  by_state state c op is e = (let bad : Need.Nothing ≡ Channel c op = sym (ap (λ (s : PpState). if_running s (need_of (next_step pp)) Need.Nothing) is) ∙ e in absurd (cc))

  shown : (c : ℕ) (op : ChanOp) → need pp ≡ Channel c op → P op (λ f. shown_to op pp f)
  shown c op e = by_state pp.state c op refl e

pub agrees : (c : ℕ) (op : ChanOp) (pp : Processor) → need pp ≡ Channel c op → Agrees pp (λ f. shown_to op pp f)
agrees c op pp e = shown (λ o of. Agrees pp of) pp (branch_agrees pp 2 (λ f. jumps_at (operation pp) f)) (λ o is. held_agrees pp pp.block refl) c op e

-- ---- positions

cut_is : (kind : BlockKind) (place : ℕ) (pp : Processor) → cut_position kind place pp ≡ position_of (cut_short kind place pp)
cut_is (Input channel) place pp = ap (λ k. record { p = next_place k; in_block = false }) (by_place place (cases_eq place 0))
  where
    by_place : (k : ℕ) → (k ≡ 0) ⊎ (k ≡ 0 → ⊥) → (if k == 0 then 0 else word_at pp 0) ≡ slice_index (slice_set pp.memory k 0) 0
    by_place k (inl is) =
        ap (λ j. if j == 0 then 0 else word_at pp 0) is
        ∙ elim (cases_lt 0 (length pp.memory)) [
          | inl below ↦ sym (get_or-set_same pp.memory 0 0 0 below)
          | inr past ↦ sym (ap (λ (ws : List ℕ). get_or ws 0 0) (set_past pp.memory 0 0 past) ∙ get_or_past pp.memory 0 0 past)
        ]
        ∙ ap (λ j. slice_index (slice_set pp.memory j 0) 0) (sym is)
    by_place k (inr apart) =
        ap (λ (t : Bool). if t then 0 else word_at pp 0) (ne_eqb k 0 apart)
        ∙ sym (get_or-set_other pp.memory k 0 0 0 (λ is. apart (sym is)))
cut_is other place pp = refl

held_by : (a : Bool) (kind : BlockKind) (place : ℕ) (pp : Processor) → (if a then position_of pp else cut_position kind place pp) ≡ position_of (if a then pp else cut_short kind place pp)
held_by true kind place pp = refl
held_by false kind place pp = cut_is kind place pp

held_position_is : (b : Option Block) (pp : Processor) (f : Flags) → held_position b pp f ≡ position_of (held b pp f)
held_position_is None pp f = refl
held_position_is (Some block) pp f = held_by f.active block.kind block.place pp

branch_by : (t : Bool) (pp : Processor) → ◌≡◌ {A = Position} (record { p = if t then second_word pp else place_after pp.p 2; in_block = is_some pp.block }) (position_of (branches_where t pp 2))
branch_by true pp = refl
branch_by false pp = refl

held_shown : (op : ChanOp) (pp : Processor) → only_looks op ≡ false → (f : Flags) → position_shown op pp f ≡ position_of (held pp.block pp f)
held_shown ChanOp.Probe pp is f = absurd cc
held_shown op pp is f = held_position_is pp.block pp f

pub shown_position : (c : ℕ) (op : ChanOp) (pp : Processor) (f : Flags) → need pp ≡ Channel c op → position_shown op pp f ≡ position_at op pp f
shown_position c op pp f e =
    shown (λ o of. (g : Flags) → position_shown o pp g ≡ position_of (of g)) pp (λ g. branch_by (jumps_at (operation pp) g) pp) (λ o is. held_shown o pp is) c op e f
