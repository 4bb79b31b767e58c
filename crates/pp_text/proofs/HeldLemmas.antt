-- Where a step is held.
use Rattle.std.proofs.Common.{◌≡◌, ℕ, Bool, true, false, cond, List, Option, Some, None, sym, ap, ◌∙◌, arith}
use Rattle.std.specs.Prelude.{IsTrue, is_some}
use Rattle.pp_channel.specs.Answer.{event_of, only_looks}
use Rattle.pp_channel.specs.History.{active}
use Rattle.pp_channel.specs.declared.{chan_op.ChanOp.ChanOp, event.Event.Event}
use Rattle.pp_channel.proofs.AnswerLemmas.{held_at, look_makes_none, look_not_held}
use Rattle.pp_machine.specs.MachineState.{MachineState, history_of, processor_of}
use Rattle.pp_machine.specs.MachineStep.{step_outcome}
use Rattle.pp_processor.specs.NeedAndEffect.{need, outcome, if_running, next_step}
use Rattle.pp_processor.specs.Processor.{Processor}
use Rattle.pp_processor.specs.Step.{need_of}
use Rattle.pp_processor.specs.declared.{block.Block.Block, outcome.Outcome.Outcome, pp_state.PpState.PpState}
use Rattle.pp_processor.specs.declared.need.Need.TheVariants as needs
use Rattle.pp_processor.specs.declared.outcome.Outcome.TheVariants.{Held, Moved}
use Rattle.pp_processor.specs.declared.pp_state.PpState.TheVariants.{Running}

-- a processor that needs a channel is running
running : (state : PpState) (pp : Processor) (c : ℕ) (op : ChanOp) → if_running state (need_of (next_step pp)) needs.Nothing ≡ needs.Channel c op → state ≡ Running
running state pp c op e = grind arith

-- whether a block goes on, by whether its channel is active
unfoldable pub goes_on : Option Block → Bool → Bool
goes_on None is_active = true
goes_on (Some block) is_active = is_active

-- an operation that makes an event is not held
pub moves_where_made : (n c : ℕ) (op : ChanOp) (m : MachineState) (e : Event) → need (processor_of n m) ≡ needs.Channel c op → event_of op (history_of c m) ≡ Some e → step_outcome n m ≡ Moved
unfolding step_outcome need outcome
moves_where_made n c op m e need_is made = grind (arith, running)

-- nor is one that only looks
pub moves_where_looked : (n c : ℕ) (op : ChanOp) (m : MachineState) → need (processor_of n m) ≡ needs.Channel c op → only_looks op ≡ true → step_outcome n m ≡ Moved
unfolding step_outcome need outcome
moves_where_looked n c op m need_is looks = grind (arith, look_makes_none, look_not_held, running)

-- another is held where it makes none, unless it ends a block
pub held_where_none : (n c : ℕ) (op : ChanOp) (m : MachineState) → need (processor_of n m) ≡ needs.Channel c op → only_looks op ≡ false → event_of op (history_of c m) ≡ None → step_outcome n m ≡ cond (goes_on (processor_of n m).block (active (history_of c m))) Held Moved
unfolding step_outcome need outcome goes_on
held_where_none n c op m need_is other none = grind (arith, running, held_at)

-- ---- the test that the code makes

held_by : (b : Bool) (o : Outcome) → o ≡ cond b Held Moved → (IsTrue b → o ≡ Held) × (o ≡ Held → IsTrue b)
held_by b o is = grind arith

pub test_looked : (n c : ℕ) (op : ChanOp) (m : MachineState) → need (processor_of n m) ≡ needs.Channel c op → only_looks op ≡ true → (IsTrue false → step_outcome n m ≡ Held) × (step_outcome n m ≡ Held → IsTrue false)
test_looked n c op m need_is looks = grind (arith, moves_where_looked)

no_event : (o : Option Event) → is_some o ≡ false → o ≡ None
no_event o is = grind arith

pub test_made : (n c : ℕ) (op : ChanOp) (m : MachineState) (o : Option Event) (h : List Event) → need (processor_of n m) ≡ needs.Channel c op → h ≡ history_of c m → o ≡ event_of op h → is_some o ≡ true → (IsTrue false → step_outcome n m ≡ Held) × (step_outcome n m ≡ Held → IsTrue false)
test_made n c op m o h need_is here is some = grind (arith, moves_where_made)

pub test_none : (n c : ℕ) (op : ChanOp) (m : MachineState) (o : Option Event) (h : List Event) (block : Option Block) (b : Bool) → need (processor_of n m) ≡ needs.Channel c op → only_looks op ≡ false → h ≡ history_of c m → o ≡ event_of op h → is_some o ≡ false
    → block ≡ (processor_of n m).block → goes_on block (active h) ≡ b → (IsTrue b → step_outcome n m ≡ Held) × (step_outcome n m ≡ Held → IsTrue b)
test_none n c op m o h block b need_is other here is none block_is on =
    held_by b (step_outcome n m)
    (held_where_none n c op m need_is other (ap (event_of op) (sym here) ∙ sym is ∙ no_event o none)
    ∙ ap (λ (k : Option Block). cond (goes_on k (active (history_of c m))) Held Moved) (sym block_is)
    ∙ ap (λ (g : List Event). cond (goes_on block (active g)) Held Moved) (sym here)
    ∙ ap (λ (x : Bool). cond x Held Moved) on)
