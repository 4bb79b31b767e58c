-- A step of a processor at rest, a step that needs nothing from outside, and what is true of each step.
use Rattle.std.proofs.Common.{◌≡◌, ℕ, ◌<◌, length, append-nil, ap, ◌∙◌, arith}
use Rattle.std.specs.Prelude.{None, Result, OnOk, OnErr, IfOk}
use Rattle.std.proofs.lemmas.List.{set-get_or, get_or-set_same}
use Rattle.pp_channel.specs.Answer.{event_of, flags_of}
use Rattle.pp_channel.specs.declared.{chan_op.ChanOp.ChanOp, flags.Flags.Flags}
use Rattle.pp_channel.specs.declared.chan_op.ChanOp.TheVariants.{Probe}
use Rattle.pp_channel.specs.declared.reply.Reply.TheVariants as replies
use Rattle.pp_machine.specs.MachineState.{MachineState, processor_of, history_of}
use Rattle.pp_machine.specs.MachineStep.{answer_to, counted, served, taken, stepped, step_event, step_outcome}
use Rattle.pp_processor.specs.NeedAndEffect.{need, outcome}
use Rattle.pp_processor.specs.Processor.{IsAtRest, IsAtFault, KeepsMemoryAndRegisters}
use Rattle.pp_numbers.specs.PpNo.{processor_index}
use Rattle.pp_processor.specs.declared.answer.Answer.TheVariants as answers
use Rattle.pp_processor.specs.declared.{need.Need.Need, outcome.Outcome.Outcome}
use Rattle.pp_processor.specs.declared.need.Need.TheVariants.{Nothing, Local, Channel, Read, Write}
use Rattle.pp_processor.specs.declared.outcome.Outcome.TheVariants.{AtRest, Held, Moved}
use Rattle.pp_processor.specs.declared.pp_state.PpState.TheVariants.{Running}
use Rattle.pp_processor.proofs.StepLemmas.{at_rest, rest_changes_nothing, held_changes_nothing, held_by_answer, fault_keeps}

-- a step of a processor at rest counts a turn, and does nothing else
pub stepped_at_rest : (n : ℕ) (m : MachineState) → IsAtRest (processor_of n m) → stepped n m ≡ record m { turns = counted m.turns }
unfolding stepped need
stepped_at_rest n m rests = grind (arith, rest_changes_nothing, set-get_or)

pub outcome_at_rest : (n : ℕ) (m : MachineState) → IsAtRest (processor_of n m) → step_outcome n m ≡ AtRest
unfolding step_outcome
outcome_at_rest n m rests = (at_rest (processor_of n m) (answer_to (need (processor_of n m)) m)).1 rests

pub event_at_rest : (n : ℕ) (m : MachineState) → IsAtRest (processor_of n m) → step_event n m ≡ None
unfolding step_event need
event_at_rest n m rests = grind arith

-- a step that needs nothing from outside changes its processor, and counts a turn
pub stepped_alone : (n : ℕ) (m : MachineState) → need (processor_of n m) ≡ Local → stepped n m ≡ taken n answers.Local m
unfolding stepped
stepped_alone n m local = ap (λ x. taken n (answer_to x m) (served n x m)) local

pub outcome_alone : (n : ℕ) (m : MachineState) → need (processor_of n m) ≡ Local → outcome (processor_of n m) answers.Local ≡ Moved → step_outcome n m ≡ Moved
unfolding step_outcome
outcome_alone n m local moved = ap (λ x. outcome (processor_of n m) (answer_to x m)) local ∙ moved

-- a test of the flags of a channel changes no history
pub stepped_by_probe : (n c : ℕ) (flags : Flags) (m : MachineState) → need (processor_of n m) ≡ Channel c Probe → flags ≡ flags_of (history_of c m) → stepped n m ≡ taken n (answers.Channel (replies.Flags flags)) m
unfolding stepped
stepped_by_probe n c flags m probes shown = grind (arith, append-nil, set-get_or)

pub outcome_by_probe : (n c : ℕ) (flags : Flags) (m : MachineState) → need (processor_of n m) ≡ Channel c Probe → flags ≡ flags_of (history_of c m) → outcome (processor_of n m) (answers.Channel (replies.Flags flags)) ≡ Moved → step_outcome n m ≡ Moved
unfolding step_outcome
outcome_by_probe n c flags m probes shown moved = grind arith

-- an operation that makes no event changes nothing
pub served_without_event : (n c : ℕ) (op : ChanOp) (m : MachineState) → event_of op (history_of c m) ≡ None → served n (Channel c op) m ≡ m
served_without_event n c op m none = grind (arith, append-nil, set-get_or)

served_held : (n : ℕ) (x : Need) (m : MachineState) (flags : Flags) → answer_to x m ≡ answers.Channel (replies.Held flags) → served n x m ≡ m
served_held n Nothing m flags e = cc
served_held n Local m flags e = cc
served_held n (Read a) m flags e = cc
served_held n (Write a w) m flags e = cc
served_held n (Channel c op) m flags e = grind (arith, served_without_event)

pub held_step : {E : Type 0} (n : ℕ) (old new : MachineState) (result : Result Outcome E) → OnOk result (new ≡ stepped n old) → IfOk result (λ o. o ≡ step_outcome n old) →
    IfOk result (λ o. o ≡ Held → new ≡ record old { turns = counted old.turns })
unfolding stepped step_outcome
held_step n old new result ok outcome = grind (arith, held_by_answer, served_held, held_changes_nothing, set-get_or)

pub fault_step : {E : Type 0} (n : ℕ) (old new : MachineState) (result : Result Outcome E) → processor_index n < length old.processors → OnOk result (new ≡ stepped n old) → OnErr result (new ≡ old) →
    (processor_of n old).state ≡ Running → IsAtFault (processor_of n new) → KeepsMemoryAndRegisters (processor_of n old) (processor_of n new)
unfolding stepped
fault_step n old new result within ok err running fault = grind (arith, get_or-set_same, fault_keeps)

-- ---- what a kind of step comes to

pub ruleset steps_at_rest = (stepped_at_rest, outcome_at_rest)

pub ruleset steps = (steps_at_rest, held_step, fault_step)

pub ruleset steps_by_probe = (stepped_by_probe, outcome_by_probe, stepped_alone, outcome_alone)
