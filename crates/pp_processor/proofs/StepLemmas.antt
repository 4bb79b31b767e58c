-- What is true of each step, whatever the instruction.
use Rattle.std.proofs.Common.{◌≡◌, ◌≢◌, IsTrue, ℕ, ◌-◌, ◌==◌, Bool, true, false, Option, None, Some, if◌then◌else◌, refl, ◌↔◌, arith}
use Rattle.pp_word.specs.OnesComplement.{difference}
use Rattle.pp_word.specs.declared.opcode.Opcode.{Opcode}
use Rattle.pp_channel.specs.declared.flags.Flags.{Flags}
use Rattle.pp_channel.specs.declared.reply.Reply.TheVariants as replies
use Rattle.pp_processor.specs.Block.{held, cut_short, block_word}
use Rattle.pp_processor.specs.Effect.{faults}
use Rattle.pp_processor.specs.InstructionTable.{row}
use Rattle.pp_processor.specs.NextStep.{IsAtInstruction}
use Rattle.pp_processor.specs.Replay.{fits}
use Rattle.pp_processor.specs.NeedAndEffect.{answered, next_step, is_held, need, processor_after, outcome, IsHeldAnswer, if_running}
use Rattle.pp_processor.specs.Processor.{Processor, IsAtRest, IsAtFault, KeepsMemoryAndRegisters}
use Rattle.pp_processor.specs.Step.{Step, need_of, local, probes, takes, does, reads, writes}
use Rattle.pp_processor.proofs.EachStep.{Leaves, Steps, either, leaves}
use Rattle.pp_processor.specs.declared.{answer.Answer.Answer, block.Block.Block, block.BlockKind.BlockKind, need.Need.Need, pp_state.PpState.PpState}
use Rattle.pp_processor.specs.declared.answer.Answer.TheVariants as answers
use Rattle.pp_processor.specs.declared.block.BlockKind.TheVariants.{CentralIn, CentralOut, Input, Output}
use Rattle.pp_processor.specs.declared.need.Need.TheVariants as needs
use Rattle.pp_processor.specs.declared.outcome.Outcome.TheVariants as outcomes
use Rattle.pp_processor.specs.declared.pp_state.PpState.TheVariants.{Running, Stopped, Fault}

-- a fault leaves memory and registers
abbrev Keeps : Processor → Processor → Type 0
Keeps old new = (number : ℕ) → new.state ≡ Fault number → KeepsMemoryAndRegisters old new

-- a processor that runs on or stops is at no fault
runs_on : (old new : Processor) → old.state ≡ Running → new.state ≡ old.state → Keeps old new
runs_on old new h e = λ number f. cc

stopped : (old new : Processor) → new.state ≡ Stopped → Keeps old new
stopped old new e = λ number f. cc

faulted : (old : Processor) (number : ℕ) → Keeps old (faults old number)
faulted old number = λ n e. record { memory = refl; a = refl; p = refl; block = refl }

-- a block that ends, or goes on, leaves the state
goes_keep : (old ended goes : Processor) (test : Bool) → old.state ≡ Running → ended.state ≡ old.state → goes.state ≡ old.state →
    Keeps old (if test then ended else goes)
goes_keep old ended goes test h e f = either (Keeps old) test (runs_on old ended h e) (runs_on old goes h f)

block_keeps : (kind : BlockKind) (place : ℕ) (pp : Processor) → pp.state ≡ Running →
    Leaves (Keeps pp) (block_word kind place pp)
block_keeps (CentralIn left) place pp h = λ word. goes_keep pp _ _ (left - 1 == 0) h refl refl
block_keeps (CentralOut left) place pp h = goes_keep pp _ _ (left - 1 == 0) h refl refl
block_keeps (Input channel) place pp h = λ word. goes_keep pp _ _ (difference pp.a 1 == 0) h refl refl
block_keeps (Output channel) place pp h = goes_keep pp _ _ (difference pp.a 1 == 0) h refl refl

cut_keeps : (kind : BlockKind) (place : ℕ) (pp : Processor) → pp.state ≡ Running → Keeps pp (cut_short kind place pp)
cut_keeps (Input channel) place pp h = runs_on pp _ h refl
cut_keeps (Output channel) place pp h = runs_on pp _ h refl
cut_keeps other place pp h = runs_on pp _ h refl

steps_keep : (pp : Processor) → pp.state ≡ Running → Steps pp (λ place. Unit {0}) (Keeps pp)
steps_keep pp h = record {
  faults = λ number. faulted pp number;
  instruction = λ free. record {
    stops = stopped pp _ refl;
    goes_to = λ target. runs_on pp _ h refl;
    loads = λ a n some few. runs_on pp _ h refl;
    stores = λ place word a n may some few. runs_on pp _ h refl;
    calls = λ target word may. runs_on pp _ h refl;
    receives = λ place central may. runs_on pp _ h refl;
    starts = λ count kind may. goes_keep pp _ _ (count == 0) h refl refl;
  };
  word = λ block is may. block_keeps block.kind block.place pp h;
  cut = λ block is may. cut_keeps block.kind block.place pp h;
}

-- a step that ends in a fault leaves memory, A and P, and no block
pub fault_keeps : (pp : Processor) (answer : Answer) → pp.state ≡ Running → IsAtFault (processor_after pp answer) →
    KeepsMemoryAndRegisters pp (processor_after pp answer)
fault_keeps pp answer h fault = leaves pp (λ place. Unit {0}) (Keeps pp) (runs_on pp pp h refl) answer (steps_keep pp) tt fault.0 fault.1

-- where a block is held and stays as it is, so does each step
held_stays : (step : Step) (pp : Processor) (flags : Flags) → held pp.block pp flags ≡ pp →
    answered step pp (answers.Channel (replies.Held flags)) ≡ pp
held_stays (takes channel after) pp flags stays = stays
held_stays (does channel op after) pp flags stays = stays
held_stays step pp flags stays = refl

-- a held step changes nothing
held_same : (block : Option Block) (pp : Processor) (step : Step) (answer : Answer) → pp.block ≡ block →
    is_held block answer ≡ true → answered step pp answer ≡ pp
held_same None pp step (answers.Channel (replies.Held flags)) e h = held_stays step pp flags (rw e refl)
held_same (Some block) pp step (answers.Channel (replies.Held flags)) e h = held_stays step pp flags (rw (e, h) refl)
held_same block pp step answer e h = cc

outcome_held : (state : PpState) (pp : Processor) (answer : Answer) → if_running state (if is_held pp.block answer then outcomes.Held else outcomes.Moved) outcomes.AtRest ≡ outcomes.Held →
    is_held pp.block answer ≡ true
outcome_held Running pp answer e = elim (is_held pp.block answer) as (λ b. (if b then outcomes.Held else outcomes.Moved) ≡ outcomes.Held → b ≡ true) [ true ↦ (λ _. refl) | false ↦ (λ f. cc) ] e
outcome_held Stopped pp answer e = cc
outcome_held (Fault number) pp answer e = cc

held_after : (state : PpState) (pp : Processor) (answer : Answer) → is_held pp.block answer ≡ true →
    if_running state (answered (next_step pp) pp answer) pp ≡ pp
held_after Running pp answer h = held_same pp.block pp (next_step pp) answer refl h
held_after Stopped pp answer h = refl
held_after (Fault number) pp answer h = refl

pub held_changes_nothing : (pp : Processor) (answer : Answer) → outcome pp answer ≡ outcomes.Held →
    processor_after pp answer ≡ pp
unfolding processor_after outcome
held_changes_nothing pp answer e = held_after pp.state pp answer (outcome_held pp.state pp answer e)

-- and its answer was a Held
held_answer : (block : Option Block) (answer : Answer) → is_held block answer ≡ true → IsHeldAnswer answer
held_answer None (answers.Channel (replies.Held flags)) h = (flags, refl)
held_answer (Some block) (answers.Channel (replies.Held flags)) h = (flags, refl)
held_answer block answer h = cc

pub held_by_answer : (pp : Processor) (answer : Answer) → outcome pp answer ≡ outcomes.Held → IsHeldAnswer answer
unfolding outcome
held_by_answer pp answer e = held_answer pp.block answer (outcome_held pp.state pp answer e)

-- a running processor's step is no rest
running_moves : (pp : Processor) (answer : Answer) → if_running Running (if is_held pp.block answer then outcomes.Held else outcomes.Moved) outcomes.AtRest ≢ outcomes.AtRest
running_moves pp answer e = elim (is_held pp.block answer) as (λ b. (if b then outcomes.Held else outcomes.Moved) ≡ outcomes.AtRest → ⊥) [ true ↦ (λ f. cc) | false ↦ (λ f. cc) ] e

at_rest_state : (state : PpState) (pp : Processor) (answer : Answer) →
    if_running state (if is_held pp.block answer then outcomes.Held else outcomes.Moved) outcomes.AtRest ≡ outcomes.AtRest → state ≢ Running
at_rest_state Running pp answer e h = running_moves pp answer e
at_rest_state Stopped pp answer e h = cc
at_rest_state (Fault number) pp answer e h = cc

rest_outcome : (state : PpState) (pp : Processor) (answer : Answer) → state ≢ Running →
    if_running state (if is_held pp.block answer then outcomes.Held else outcomes.Moved) outcomes.AtRest ≡ outcomes.AtRest
rest_outcome Running pp answer h = absurd (h refl)
rest_outcome Stopped pp answer h = refl
rest_outcome (Fault number) pp answer h = refl

pub at_rest : (pp : Processor) (answer : Answer) → (outcome pp answer ≡ outcomes.AtRest) ↔ IsAtRest pp
unfolding outcome
at_rest pp answer = ((λ e h. at_rest_state pp.state pp answer e h), (λ h. rest_outcome pp.state pp answer h))

-- a processor at rest is not changed
rest_after : (state : PpState) (pp : Processor) (answer : Answer) → state ≢ Running → if_running state (answered (next_step pp) pp answer) pp ≡ pp
rest_after Running pp answer h = absurd (h refl)
rest_after Stopped pp answer h = refl
rest_after (Fault number) pp answer h = refl

pub rest_changes_nothing : (pp : Processor) (answer : Answer) → IsAtRest pp → processor_after pp answer ≡ pp
unfolding processor_after
rest_changes_nothing pp answer h = rest_after pp.state pp answer h

-- a step needs something, be it Local
need_of-some : (step : Step) → need_of step ≢ needs.Nothing
need_of-some (local after) e = cc
need_of-some (probes channel after) e = cc
need_of-some (takes channel after) e = cc
need_of-some (does channel op after) e = cc
need_of-some (reads address after) e = cc
need_of-some (writes address word after) e = cc

no_need_rest : (state : PpState) (pp : Processor) → if_running state (need_of (next_step pp)) needs.Nothing ≡ needs.Nothing → state ≢ Running
no_need_rest Running pp e h = need_of-some (next_step pp) e
no_need_rest Stopped pp e h = cc
no_need_rest (Fault number) pp e h = cc

rest_no_need : (state : PpState) (pp : Processor) → state ≢ Running → if_running state (need_of (next_step pp)) needs.Nothing ≡ needs.Nothing
rest_no_need Running pp h = absurd (h refl)
rest_no_need Stopped pp h = refl
rest_no_need (Fault number) pp h = refl

pub nothing_at_rest : (pp : Processor) → (need pp ≡ needs.Nothing) ↔ IsAtRest pp
unfolding need
nothing_at_rest pp = ((λ e h. no_need_rest pp.state pp e h), (λ h. rest_no_need pp.state pp h))

-- ---- what an answer does

pub ruleset answers_given = (held_changes_nothing, held_by_answer, at_rest, rest_changes_nothing, fault_keeps)

-- an answer that does not fit a fault fits the row of the instruction
if_fits : (faulty : Bool) (step fault : Step) (pp : Processor) (x : Answer) → IsTrue (fits (need_of (if faulty then fault else step)) x) → fits (need_of fault) x ≡ false → answered step pp x ≡ answered (if faulty then fault else step) pp x
if_fits true step fault pp x fit other = cc
if_fits false step fault pp x fit other = refl

pub taken_by_row : (op : Opcode) (d : ℕ) (pp : Processor) (x : Answer) → IsAtInstruction op d pp → IsTrue (fits (need pp) x) → fits Need.Local x ≡ false → answered (row op pp d) pp x ≡ processor_after pp x
unfolding need processor_after
taken_by_row op d pp x next fit other = grind (arith, if_fits)
