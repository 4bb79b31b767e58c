-- Conditions on a step of a run: which steps meet each.
use Rattle.std.specs.Prelude.{◌≡◌, ◌≢◌, ℕ, IsTrue, Option, None, Some, slice_index}
use Rattle.pp_channel.specs.History.{full}
use Rattle.pp_channel.specs.declared.{chan_op.ChanOp.ChanOp, event.Event.Event, flags.Flags.Flags}
use Rattle.pp_machine.specs.MachineState.{MachineState, history_of, processor_of}
use Rattle.pp_machine.specs.MachineStep.{step_event, stepped}
use Rattle.pp_processor.specs.NeedAndEffect.{need}
use Rattle.pp_processor.specs.Processor.{IsAtFault, Processor, word_at}
use Rattle.pp_processor.specs.declared.{need.Need.Need, pp_state.PpState.PpState}
use Rattle.pp_run.specs.BareMachine.{progress}
use Rattle.pp_run.specs.Determinacy.{IsQuiet}
use Rattle.pp_run.specs.RunSteps.{RunStep}
use Rattle.pp_run.specs.declared.progress.Progress.{Progress}
use Rattle.pp_condition.specs.declared.{condition.Condition.Condition, condition.EventForm.EventForm, condition.ProcessorCondition.ProcessorCondition}
use Rattle.pp_condition.specs.declared.condition.Condition.TheVariants.{Central, Channel, Lost, Quiet}
use Rattle.pp_condition.specs.declared.condition.ProcessorCondition.TheVariants.{Faults, IsHeld, StandsAt, Stops, Stores}

-- the processor of a step, before it and after it, and the machine after it
abbrev pub old_of : RunStep → Processor
old_of step = processor_of step.processor step.before

abbrev pub machine_after : RunStep → MachineState
machine_after step = stepped step.processor step.before

abbrev pub new_of : RunStep → Processor
new_of step = processor_of step.processor (machine_after step)

-- a word is the one that is given, if one is
abbrev pub IsGiven : Option ℕ → ℕ → Type 0
IsGiven None word = Unit {0}
IsGiven (Some given) word = word ≡ given

-- a word differs from the old one, and is the one that is given, if one is
abbrev pub ChangesTo : Option ℕ → ℕ → ℕ → Type 0
ChangesTo given old new = (new ≢ old) × IsGiven given new

-- ---- a step of the processor that is named

-- after it the processor runs, within no block, and stands at p
pub record StandsAtPlace (p : ℕ) (pp : Processor) : Type 0 where
  pub running : pp.state ≡ PpState.Running
  pub no_block : pp.block ≡ None
  pub place : pp.p ≡ p

abbrev pub Does : ProcessorCondition → RunStep → Type 0
Does (StandsAt p) step = StandsAtPlace p (new_of step)
Does (Stores place word) step =
    ChangesTo word (word_at (old_of step) place) (word_at (new_of step) place)
Does Stops step =
    ((old_of step).state ≡ PpState.Running) × ((new_of step).state ≡ PpState.Stopped)
Does Faults step = ((old_of step).state ≡ PpState.Running) × IsAtFault (new_of step)
Does IsHeld step = (flags : Flags) × (progress step.processor step.before ≡ Progress.Held flags)

-- ---- a step that makes an event

-- it makes this event on channel c
pub record Makes (event : Event) (c : ℕ) (step : RunStep) : Type 0 where
  pub operation : ChanOp
  pub needs : need (old_of step) ≡ Need.Channel c operation
  pub makes : step_event step.processor step.before ≡ Some event

-- an event has this form
abbrev pub HasForm : EventForm → Event → Type 0
HasForm EventForm.Any event = Unit {0}
HasForm EventForm.Activate event = event ≡ Event.Activate
HasForm EventForm.Disconnect event = event ≡ Event.Disconnect
HasForm (EventForm.Put given) event = (word : ℕ) × (event ≡ Event.Put word) × IsGiven given word
HasForm (EventForm.Take given) event = (word : ℕ) × (event ≡ Event.Take word) × IsGiven given word
HasForm (EventForm.Function given) event =
    (word : ℕ) × (event ≡ Event.Function word) × IsGiven given word

-- ---- THE CONDITION: a step meets it
abbrev pub Meets : Condition → RunStep → Type 0
Meets (Condition.Processor n does) step = (step.processor ≡ n) × Does does step
Meets (Central address word) step = ChangesTo word (slice_index step.before.central address)
    (slice_index (machine_after step).central address)
Meets (Channel c form) step = (event : Event) × Makes event c step × HasForm form event
Meets Lost step =
    (c : ℕ) × Makes Event.Disconnect c step × IsTrue (full (history_of c step.before))
Meets Quiet step = IsQuiet (machine_after step)
