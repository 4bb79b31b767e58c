-- A step is held exactly where its processor waits for a channel.
use Rattle.std.proofs.Common.{◌≡◌, ◌≢◌, ℕ, ◌≤◌, ◌⊎◌, inl, inr, Bool, true, false, cond, List, [], Option, Some, None, length, refl, sym, ap, subst, ◌∙◌, arith}
use Rattle.std.proofs.lemmas.Bool.{both_ways, cases_Bool}
use Rattle.std.proofs.lemmas.List.{get_or_past}
use Rattle.pp_channel.specs.Answer.{IsReady, event_of, only_looks}
use Rattle.pp_numbers.specs.ChannelNo.{channel_count, channel_index, names_channel, channel_places}
use Rattle.pp_channel.specs.History.{IsLawful, active}
use Rattle.pp_channel.specs.declared.{chan_op.ChanOp.ChanOp, event.Event.Event}
use Rattle.pp_channel.proofs.AnswerLemmas.{looks_or_acts, none_without_ready, table_of_ready}
use Rattle.pp_channel.proofs.HistoryLemmas.{lawful_empty}
use Rattle.pp_machine.specs.Headline.{HoldsOnEachChannel}
use Rattle.pp_machine.specs.MachineState.{MachineState, history_of, processor_of}
use Rattle.pp_machine.specs.MachineStep.{step_outcome}
use Rattle.pp_processor.specs.NeedAndEffect.{need}
use Rattle.pp_processor.specs.declared.{block.Block.Block, outcome.Outcome.Outcome}
use Rattle.pp_processor.specs.declared.need.Need.TheVariants as needs
use Rattle.pp_processor.specs.declared.outcome.Outcome.TheVariants.{Held, Moved}
use Rattle.pp_processor.proofs.StepLemmas.{held_by_answer}
use Rattle.pp_state.specs.StateLaw.{IsHeld, IsHeldBy}
use Rattle.pp_text.specs.Standing.{held_text}
use Rattle.pp_text.proofs.HeldLemmas.{goes_on, held_where_none, moves_where_looked, moves_where_made}

-- ---- histories of all channels, also of numbers that name none

lawful : (c : ℕ) (m : MachineState) → length m.histories ≡ channel_count → HoldsOnEachChannel m → IsLawful (history_of c m)
lawful c m all holds = elim (cases_Bool (names_channel c)) [
  | inl named ↦ (holds c named).lawful
  | inr none ↦
      let past : channel_count ≤ channel_index c = channel_places.place_past c (both_ways (names_channel c) none) in
      subst IsLawful (sym (get_or_past m.histories (channel_index c) [] (omega (arith, all, past)))) lawful_empty
]

-- ---- a processor that waits is held

on_goes : (block : Option Block) (is_active : Bool) → (block ≡ None) ⊎ (is_active ≡ true) → goes_on block is_active ≡ true
unfolding goes_on
on_goes block is_active h2 = grind arith

goes_is_on : (block : Option Block) (is_active : Bool) → goes_on block is_active ≡ true → (block ≡ None) ⊎ (is_active ≡ true)
unfolding goes_on
goes_is_on block is_active e = grind arith

pub held_where_waits : (n : ℕ) (m : MachineState) → length m.histories ≡ channel_count → HoldsOnEachChannel m → IsHeld n m → step_outcome n m ≡ Held
held_where_waits n m all holds (c, op, waits) =
    held_where_none n c op m waits.needs waits.acts (none_without_ready (history_of c m) (lawful c m all holds) op waits.not_ready (event_of op (history_of c m)) refl)
    ∙ ap (λ (b : Bool). cond b Held Moved) (on_goes (processor_of n m).block (active (history_of c m)) waits.no_end)

-- ---- a processor that is held waits

moved_not_held : (o : Outcome) → o ≡ Moved → o ≡ Held → ⊥
moved_not_held o moved held = cc

event_or_not : (o : Option Event) → (o ≡ None) ⊎ ((e : Event) × (o ≡ Some e))
event_or_not None = inl refl
event_or_not (Some e) = inr (e, refl)

held_is_true : (b : Bool) (o : Outcome) → o ≡ cond b Held Moved → o ≡ Held → b ≡ true
held_is_true b o is held = grind (arith, moved_not_held)

never_ready : (h : List Event) (op : ChanOp) → IsLawful h → event_of op h ≡ None → (e : Event) → IsReady h op e → ⊥
never_ready h op law none e ready = let made : event_of op h ≡ Some e = table_of_ready h law op e ready in cc

waits_on : (n c : ℕ) (op : ChanOp) (m : MachineState) → IsLawful (history_of c m) → need (processor_of n m) ≡ needs.Channel c op → step_outcome n m ≡ Held → IsHeld n m
waits_on n c op m law needed held = (c, op, by (looks_or_acts (only_looks op)) (event_or_not (event_of op (history_of c m))))
  where
    by : (only_looks op ≡ true) ⊎ (only_looks op ≡ false) → (event_of op (history_of c m) ≡ None) ⊎ ((e : Event) × (event_of op (history_of c m) ≡ Some e)) → IsHeldBy n m c op
    by (inl looks) event = absurd (moved_not_held (step_outcome n m) (moves_where_looked n c op m needed looks) held)
    by (inr acts) (inr made) = absurd (moved_not_held (step_outcome n m) (moves_where_made n c op m made.0 needed made.1) held)
    by (inr acts) (inl none) = record {
      needs = needed;
      acts = acts;
      not_ready = never_ready (history_of c m) op law none;
      no_end = goes_is_on (processor_of n m).block (active (history_of c m)) (held_is_true (goes_on (processor_of n m).block (active (history_of c m))) (step_outcome n m) (held_where_none n c op m needed acts none) held);
    }

pub waits_where_held : (n : ℕ) (m : MachineState) → length m.histories ≡ channel_count → HoldsOnEachChannel m → step_outcome n m ≡ Held → IsHeld n m
unfolding step_outcome
waits_where_held n m all holds held = grind (arith, waits_on, lawful, held_by_answer)

-- ---- the text says so

pub says_where_waits : (n : ℕ) (m : MachineState) (count : ℕ) → step_outcome n m ≡ Held → IsHeld n m → held_text (need (processor_of n m)) (step_outcome n m) m count ≢ []
says_where_waits n m count held (c, op, waits) = grind arith

pub held_where_said : (n : ℕ) (m : MachineState) (count : ℕ) → held_text (need (processor_of n m)) (step_outcome n m) m count ≢ [] → step_outcome n m ≡ Held
held_where_said n m count some = grind arith
