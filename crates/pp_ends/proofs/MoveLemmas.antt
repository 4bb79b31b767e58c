-- A step that makes an event or writes a central word changes its processor.
use Rattle.std.proofs.Common.{◌≡◌, ◌≢◌, ℕ, Bool, sym, ap, ◌∙◌, arith}
use Rattle.std.specs.Prelude.{Option, Some, None}
use Rattle.pp_channel.specs.Answer.{channel_state, event_by as made_by, state_reply}
use Rattle.pp_channel.specs.declared.{channel_state.ChannelState.ChannelState, chan_op.ChanOp.ChanOp, event.Event.Event}
use Rattle.pp_machine.specs.MachineState.{MachineState, processor_of, history_of}
use Rattle.pp_machine.specs.MachineStep.{answer_to, stepped, step_event}
use Rattle.pp_processor.specs.NeedAndEffect.{answered, if_running, need, next_step, processor_after}
use Rattle.pp_processor.specs.Processor.{Processor}
use Rattle.pp_processor.specs.Step.{Step, local, probes, takes, does, reads, writes, need_of}
use Rattle.pp_processor.specs.declared.{answer.Answer.Answer, need.Need.Need, pp_state.PpState.PpState}
use Rattle.pp_processor.specs.declared.answer.Answer.TheVariants as answers
use Rattle.pp_processor.specs.declared.need.Need.TheVariants.{Nothing, Local, Channel, Read, Write}
use Rattle.pp_processor.specs.declared.pp_state.PpState.TheVariants.{Running}
use Rattle.pp_word.specs.Address.{place_after}
use Rattle.pp_run.specs.Determinacy.{Waits}
use Rattle.pp_run.proofs.StepFacts.{central_by, event_by, event_by_need, own_step}

-- P goes on to another place
pub goes_by : (p n : ℕ) → n ≡ 1 → place_after p n ≢ p
goes_by p n one e = omega (arith, one, e)

pub goes_by_two : (p : ℕ) → place_after p 2 ≢ p
goes_by_two p e = omega (arith, e)

-- an operation that is done by a reply without a word
abbrev IsDone : ChanOp → Type 0
IsDone ChanOp.Take = ⊥
IsDone op = Unit {0}

-- a step whose answers change the processor, where it is not held
abbrev pub Changes : Processor → Step → Type 0
Changes pp (local after) = Unit {0}
Changes pp (probes channel after) = Unit {0}
Changes pp (takes channel after) = (word : ℕ) → after word ≢ pp
Changes pp (does channel op after) = (after ≢ pp) × IsDone op
Changes pp (reads address after) = Unit {0}
Changes pp (writes address word after) = after ≢ pp

pub five_on : (place : ℕ) → place_after place 5 ≢ place
five_on place e = omega (arith, e)

-- ---- answers

-- a step that makes an event changes its processor
event_changes : (step : Step) (pp : Processor) (c : ℕ) (op : ChanOp) (state : ChannelState) (e : Event)
    → Changes pp step → need_of step ≡ Channel c op → made_by op state.flags state.register ≡ Some e
    → answered step pp (answers.Channel (state_reply op state)) ≢ pp
event_changes step pp c op state e changes needs is = grind arith

write_changes : (step : Step) (pp : Processor) (a w : ℕ) (written : Bool) → pp.state ≡ Running
    → Changes pp step → need_of step ≡ Write a w → answered step pp (answers.Wrote written) ≢ pp
unfolding need
write_changes step pp a w written runs changes needs = grind arith

-- ---- a processor that needs something is running

record Runs (pp : Processor) (x : Need) : Type 0 where
  state : pp.state ≡ Running
  needs : need_of (next_step pp) ≡ x

after_running : (pp : Processor) (answer : Answer) → pp.state ≡ Running
    → processor_after pp answer ≡ answered (next_step pp) pp answer
unfolding processor_after
after_running pp answer is = ap (λ (s : PpState). if_running s (answered (next_step pp) pp answer) pp) is

pub moves_by_event : (pp : Processor) (c : ℕ) (op : ChanOp) (state : ChannelState) (e : Event)
    → need pp ≡ Channel c op → made_by op state.flags state.register ≡ Some e
    → processor_after pp (answers.Channel (state_reply op state)) ≢ pp
unfolding need
moves_by_event pp c op state e needs is stays = grind (arith, event_changes, after_running, goes_by, goes_by_two, five_on)

pub moves_by_write : (pp : Processor) (a w : ℕ) (written : Bool) → need pp ≡ Write a w
    → processor_after pp (answers.Wrote written) ≢ pp
unfolding need
moves_by_write pp a w written needs stays = grind (arith, write_changes, after_running, goes_by, goes_by_two, five_on)

-- ---- a step that leaves its processor as it was waits

waits_by : (n : ℕ) (m : MachineState) (x : Need) → need (processor_of n m) ≡ x
    → processor_after (processor_of n m) (answer_to x m) ≡ processor_of n m
    → (made : Option Event) → step_event n m ≡ made
    → processor_of n (stepped n m) ≡ processor_of n m → Waits n m
waits_by n m Nothing e stays made is same = record { processor = same; event = event_by n m Nothing e; central = central_by n m Nothing e }
waits_by n m Local e stays made is same = record { processor = same; event = event_by n m Local e; central = central_by n m Local e }
waits_by n m (Read a) e stays made is same = record { processor = same; event = event_by n m (Read a) e; central = central_by n m (Read a) e }
waits_by n m (Write a w) e stays made is same = grind (arith, moves_by_write)
waits_by n m (Channel c op) e stays None is same = record { processor = same; event = is; central = central_by n m (Channel c op) e }
waits_by n m (Channel c op) e stays (Some event) is same =
    absurd (moves_by_event (processor_of n m) c op (channel_state (history_of c m)) event e (sym (event_by_need n c op m e) ∙ is) stays)

pub kept_waits : (n : ℕ) (m : MachineState) → processor_of n (stepped n m) ≡ processor_of n m → Waits n m
kept_waits n m same = grind (arith, waits_by, own_step)
