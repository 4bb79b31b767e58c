-- A property of whatever a step leaves, from what instructions and blocks do: the one place that goes
-- through the table of instructions for it.
use Rattle.std.proofs.Common.{◌≡◌, ℕ, ◌%◌, ◌<◌, ◌==◌, not, Bool, true, false, Option, None, Some, if◌then◌else◌, slice_set, refl, arith}
use Rattle.std.specs.Prelude.{◌&&◌, slice_index_or}
use Rattle.std.proofs.lemmas.List.Elements.{All-from_recursion}
use Rattle.pp_numbers.specs.Profile.{has_channel}
use Rattle.pp_word.specs.Address.{next_place, place_after, relative_to}
use Rattle.pp_word.specs.Opcode.{code_of, length_of}
use Rattle.pp_word.specs.declared.opcode.Opcode.{Opcode}
use Rattle.pp_word.specs.declared.opcode.Opcode.TheVariants.{PSN, LJM, RJM, UJN, ZJN, NJN, PJN, MJN, SHN, LMN, LPN, SCN, LDN, LCN, ADN, SBN, LDC, ADC, LPC, LMC, PSN24, PSN25, EXN, RPN, CRD, CRM, CWD, CWM, AJM, IJM, FJM, EJM, IAN, IAM, OAN, OAM, ACN, DCN, FAN, FNC}
use Rattle.pp_channel.specs.declared.flags.Flags.{Flags}
use Rattle.pp_channel.specs.declared.reply.Reply.TheVariants as replies
use Rattle.pp_processor.specs.Block.{block_word, cut_short, held, receives, starts}
use Rattle.pp_processor.specs.Effect.{branches_where, faults, goes_on, goes_to, is_negative, jumps_where, leads_to_itself, loads_word, stops}
use Rattle.pp_processor.specs.InstructionTable.{memory_operations, operand_place, row, works_on_channel}
use Rattle.pp_processor.specs.NeedAndEffect.{answered, if_running, next_step, processor_after, step_of}
use Rattle.pp_processor.specs.Operand.{index, lower_six, operation, second_word}
use Rattle.pp_processor.specs.Processor.{Processor}
use Rattle.pp_processor.specs.Step.{Step, local, probes, takes, does, reads, writes}
use Rattle.pp_processor.specs.Stores.{first_of, first_stored}
use Rattle.pp_processor.specs.declared.{answer.Answer.Answer, block.Block.Block, block.BlockKind.BlockKind, pp_state.PpState.PpState}
use Rattle.pp_processor.specs.declared.answer.Answer.TheVariants as answers
use Rattle.pp_processor.specs.declared.pp_state.PpState.TheVariants.{Running}

-- each answer to a step leaves a processor with a property
abbrev pub Leaves : (Processor → Type 0) → Step → Type 0
Leaves P (local after) = P after
Leaves P (probes channel after) = (flags : Flags) → P (after flags)
Leaves P (takes channel after) = (word : ℕ) → P (after word)
Leaves P (does channel op after) = P after
Leaves P (reads address after) = (word : ℕ) → P (after word)
Leaves P (writes address word after) = P after

-- What an instruction may do that stores, if it does, from one of some places on; n is its length.
pub record Instructions (pp : Processor) (MayStore : ℕ → Type 0) (P : Processor → Type 0) : Type 0 where
  pub stops : P (stops pp)
  pub goes_to : (target : ℕ) → P (goes_to pp target)
  pub loads : (a n : ℕ) → 0 < n → n < 3 → P (record pp { a = a; p = place_after pp.p n })
  pub stores : (place word a n : ℕ) → MayStore place → 0 < n → n < 3
      → P (record pp { memory = slice_set pp.memory place word; a = a; p = place_after pp.p n })
  pub calls : (target word : ℕ) → MayStore target
      → P (record pp { memory = slice_set pp.memory target word; p = next_place target })
  pub receives : (place central : ℕ) → MayStore place → P (goes_on (receives pp place central) 1)
  pub starts : (count : ℕ) (kind : BlockKind) → MayStore 0 → P (starts pp count kind)

-- What the next step of a running processor may do.
pub record Steps (pp : Processor) (MayStore : ℕ → Type 0) (P : Processor → Type 0) : Type 0 where
  pub faults : (number : ℕ) → P (faults pp number)
  pub instruction : pp.block ≡ None → Instructions pp MayStore P
  pub word : (block : Block) → pp.block ≡ Some block → MayStore block.place
      → Leaves P (block_word block.kind block.place pp)
  pub cut : (block : Block) → pp.block ≡ Some block → MayStore block.place
      → P (cut_short block.kind block.place pp)

pub either : {X : Type 0} (P : X → Type 0) (test : Bool) {one other : X} → P one → P other
    → P (if test then one else other)
either P true h k = h
either P false h k = k

module _ (pp : Processor) (MayStore : ℕ → Type 0) (P : Processor → Type 0) (stays : P pp) where
  module _ (fault : (number : ℕ) → P (faults pp number)) (verbs : Instructions pp MayStore P) where
    jumps : (test : Bool) (d : ℕ) → P (jumps_where test pp d 1)
    jumps test d = either P test (either P (leads_to_itself d) stays (verbs.goes_to (relative_to pp.p d))) (verbs.loads pp.a 1 (omega arith) (omega arith))

    branches : (test : Bool) → P (branches_where test pp 2)
    branches test = either P test (verbs.goes_to (second_word pp)) (verbs.loads pp.a 2 (omega arith) (omega arith))

    -- the eight operations on the word at a place
    operates : (code place n : ℕ) → MayStore place → 0 < n → n < 3 → P (slice_index_or memory_operations (code % 8) loads_word pp place n)
    operates code place n may some few =
        All-from_recursion (λ does_so. P (does_so pp place n)) memory_operations (
          verbs.loads _ n some few,
          (verbs.loads _ n some few, (verbs.loads _ n some few, (verbs.loads _ n some few, (verbs.stores place _ pp.a n may some few, (verbs.stores place _ _ n may some few, (verbs.stores place _ _ n may some few, (verbs.stores place _ _ n may some few, tt))))))),
        )
        (code % 8) loads_word (omega arith)

    one : (a : ℕ) → P (record pp { a = a; p = place_after pp.p 1 })
    one a = verbs.loads a 1 (omega arith) (omega arith)

    two : (a : ℕ) → P (record pp { a = a; p = place_after pp.p 2 })
    two a = verbs.loads a 2 (omega arith) (omega arith)

    row_leaves : (op : Opcode) (d : ℕ) → MayStore (first_of op pp d) → Leaves P (row op pp d)
    row_leaves PSN d may = one pp.a
    row_leaves LJM d may = verbs.goes_to (index pp d)
    row_leaves RJM d may = verbs.calls (index pp d) _ may
    row_leaves UJN d may = either P (leads_to_itself d) verbs.stops (verbs.goes_to (relative_to pp.p d))
    row_leaves ZJN d may = jumps (pp.a == 0) d
    row_leaves NJN d may = jumps (not (pp.a == 0)) d
    row_leaves PJN d may = jumps (not (is_negative pp)) d
    row_leaves MJN d may = jumps (is_negative pp) d
    row_leaves SHN d may = one _
    row_leaves LMN d may = one _
    row_leaves LPN d may = one _
    row_leaves SCN d may = one _
    row_leaves LDN d may = one _
    row_leaves LCN d may = one _
    row_leaves ADN d may = one _
    row_leaves SBN d may = one _
    row_leaves LDC d may = two _
    row_leaves ADC d may = two _
    row_leaves LPC d may = two _
    row_leaves LMC d may = two _
    row_leaves PSN24 d may = one pp.a
    row_leaves PSN25 d may = one pp.a
    row_leaves EXN d may = fault 1
    row_leaves RPN d may = fault 2
    row_leaves CRD d may = λ central. verbs.receives d central may
    row_leaves CRM d may = verbs.starts _ _ may
    row_leaves CWD d may = one pp.a
    row_leaves CWM d may = verbs.starts _ _ may
    row_leaves AJM d may = λ flags. branches flags.active
    row_leaves IJM d may = λ flags. branches (not flags.active)
    row_leaves FJM d may = λ flags. branches flags.full
    row_leaves EJM d may = λ flags. branches (not flags.full)
    row_leaves IAN d may = λ word. one word
    row_leaves IAM d may = verbs.starts _ _ may
    row_leaves OAN d may = one pp.a
    row_leaves OAM d may = verbs.starts _ _ may
    row_leaves ACN d may = one pp.a
    row_leaves DCN d may = one pp.a
    row_leaves FAN d may = one pp.a
    row_leaves FNC d may = two pp.a
    row_leaves op d may = operates (code_of op) (operand_place op pp d) (length_of op) may (omega arith) (omega arith)

  module _ (verbs : Steps pp MayStore P) where
    step_leaves : (block : Option Block) → pp.block ≡ block → MayStore (first_stored block pp) → Leaves P (step_of block pp)
    step_leaves None is may =
        either (Leaves P) (works_on_channel (operation pp) && not (has_channel pp.profile (lower_six pp))) {one = local (faults pp 3)} (verbs.faults 3)
        (row_leaves verbs.faults (verbs.instruction is) (operation pp) (lower_six pp) may)
    step_leaves (Some block) is may = verbs.word block is may

    held_leaves : (block : Option Block) (flags : Flags) → pp.block ≡ block → MayStore (first_stored block pp) → P (held block pp flags)
    held_leaves None flags is may = stays
    held_leaves (Some block) flags is may = either P flags.active stays (verbs.cut block is may)

    answered_leaves : (step : Step) (answer : Answer) → MayStore (first_stored pp.block pp) → Leaves P step → P (answered step pp answer)
    answered_leaves (takes channel after) (answers.Channel (replies.Held flags)) may h = held_leaves pp.block flags refl may
    answered_leaves (does channel op after) (answers.Channel (replies.Held flags)) may h = held_leaves pp.block flags refl may
    answered_leaves (local after) answers.Local may h = h
    answered_leaves (probes channel after) (answers.Channel (replies.Flags flags)) may h = h flags
    answered_leaves (takes channel after) (answers.Channel (replies.Word word)) may h = h word
    answered_leaves (does channel op after) (answers.Channel replies.Done) may h = h
    answered_leaves (reads address after) (answers.Read (Some word)) may h = h word
    answered_leaves (reads address after) (answers.Read None) may h = verbs.faults 4
    answered_leaves (writes address word after) (answers.Wrote true) may h = h
    answered_leaves (writes address word after) (answers.Wrote false) may h = verbs.faults 4
    answered_leaves step answer may h = stays

  state_leaves : (state : PpState) (answer : Answer) → (state ≡ Running → Steps pp MayStore P) → MayStore (first_stored pp.block pp)
      → P (if_running state (answered (next_step pp) pp answer) pp)
  state_leaves Running answer verbs may = answered_leaves (verbs refl) (next_step pp) answer may (step_leaves (verbs refl) pp.block refl may)
  state_leaves other answer verbs may = stays

  -- so does each answer to its next step
  pub leaves : (answer : Answer) → (pp.state ≡ Running → Steps pp MayStore P) → MayStore (first_stored pp.block pp) → P (processor_after pp answer)
  unfolding processor_after
  leaves answer verbs may = state_leaves pp.state answer verbs may
