-- The event that a step makes.
use Rattle.std.proofs.Common.{◌≡◌, ◌≢◌, ℕ, Bool, true, false, IsTrue, Option, Some, None, sym, ◌∙◌, subst}
use Rattle.std.specs.Prelude.{◌↔◌}
use Rattle.pp_channel.specs.Answer.{event_of}
use Rattle.pp_channel.specs.History.{full}
use Rattle.pp_channel.specs.declared.{chan_op.ChanOp.ChanOp, event.Event.Event}
use Rattle.pp_machine.specs.MachineState.{MachineState, history_of, processor_of}
use Rattle.pp_processor.specs.NeedAndEffect.{need}
use Rattle.pp_processor.specs.declared.need.Need.{Need}
use Rattle.pp_run.specs.RunSteps.{RunStep}
use Rattle.pp_run.proofs.StepFacts.{event_by_need}
use Rattle.pp_condition.specs.Condition.{HasForm, Makes}
use Rattle.pp_condition.specs.declared.condition.EventForm.{EventForm}

abbrev step_of : ℕ → MachineState → RunStep
step_of n m = record { processor = n; before = m }

is_made : (n c : ℕ) (op : ChanOp) (m : MachineState) (e : Event) → need (processor_of n m) ≡ Need.Channel c op → event_of op (history_of c m) ≡ Some e → Makes e c (step_of n m)
is_made n c op m e needs is = record { operation = op; needs = needs; makes = event_by_need n c op m needs ∙ is }

-- a step with this need makes no event but this one, on no other channel
one_channel : (c d : ℕ) (op other : ChanOp) → Need.Channel c op ≡ Need.Channel d other → c ≡ d
one_channel c d op other same = cc

one_event : (n c d : ℕ) (op : ChanOp) (m : MachineState) (found : Option Event) (e : Event) → need (processor_of n m) ≡ Need.Channel c op → event_of op (history_of c m) ≡ found → Makes e d (step_of n m) → found ≡ Some e
one_event n c d op m found e needs is makes = sym is ∙ sym (event_by_need n c op m needs) ∙ makes.makes

pub same_event : (e other : Event) → Some e ≡ Some other → e ≡ other
same_event e other same = cc

pub makes_one : (form : EventForm) (n c d : ℕ) (op : ChanOp) (m : MachineState) (e : Event) (has : Bool) → c ≡ d → need (processor_of n m) ≡ Need.Channel c op → event_of op (history_of c m) ≡ Some e → IsTrue has ↔ HasForm form e
    → IsTrue has ↔ ((x : Event) × Makes x d (step_of n m) × HasForm form x)
makes_one form n c d op m e has here needs is form_is = (
  λ true. (e, subst (λ (k : ℕ). Makes e k (step_of n m)) here (is_made n c op m e needs is), form_is.0 true),
  λ x. form_is.1 (subst (λ (y : Event). HasForm form y) (sym (same_event e x.0 (one_event n c d op m (Some e) x.0 needs is x.1))) x.2),
)

pub makes_none : (form : EventForm) (n c d : ℕ) (op : ChanOp) (m : MachineState) → need (processor_of n m) ≡ Need.Channel c op → event_of op (history_of c m) ≡ None
    → IsTrue false ↔ ((x : Event) × Makes x d (step_of n m) × HasForm form x)
makes_none form n c d op m needs none = (
  λ bad. absurd (cc),
  λ x. let bad : None ≡ Some x.0 = one_event n c d op m None x.0 needs none x.1 in absurd (cc),
)

pub loses : (n c : ℕ) (op : ChanOp) (m : MachineState) (flag : Bool) → need (processor_of n m) ≡ Need.Channel c op → event_of op (history_of c m) ≡ Some Event.Disconnect → flag ≡ full (history_of c m)
    → IsTrue flag ↔ ((x : ℕ) × Makes Event.Disconnect x (step_of n m) × IsTrue (full (history_of x m)))
loses n c op m flag needs is same = (
  λ true. (c, is_made n c op m Event.Disconnect needs is, sym same ∙ true),
  λ x. same ∙ subst (λ (k : ℕ). IsTrue (full (history_of k m))) (one_channel x.0 c x.1.operation op (sym x.1.needs ∙ needs)) x.2,
)

pub loses_none : (n c : ℕ) (op : ChanOp) (m : MachineState) (flag : Bool) (found : Option Event) → flag ≡ false → need (processor_of n m) ≡ Need.Channel c op → event_of op (history_of c m) ≡ found → found ≢ Some Event.Disconnect
    → IsTrue flag ↔ ((x : ℕ) × Makes Event.Disconnect x (step_of n m) × IsTrue (full (history_of x m)))
loses_none n c op m flag found clear needs is other = (
  λ yes. let bad : false ≡ true = sym clear ∙ yes in absurd (cc),
  λ x. absurd (other (one_event n c x.0 op m found Event.Disconnect needs is x.1)),
)
