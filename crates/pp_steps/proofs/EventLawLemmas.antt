-- The events on the lines of a run are those of its trace.
use Rattle.std.proofs.Common.{◌≡◌, ℕ, Bool, ◌&&◌, cond, List, [], ◌∷◌, ◌++◌, length, drop, refl, sym, ap, append_assoc, arith}
use Rattle.std.specs.Prelude.{Option, Some}
use Rattle.std.specs.List.{filter, flat_map}
use Rattle.std.proofs.lemmas.List.{append-nil}
use Rattle.std.proofs.Math.Seq.{drop-append_seam}
use Rattle.std.proofs.lemmas.List.Elements.{filter-append}
use Rattle.pp_channel.specs.Answer.{event_of}
use Rattle.pp_channel.specs.declared.{chan_op.ChanOp.ChanOp, event.Event.Event}
use Rattle.pp_machine.specs.MachineState.{MachineState, history_of, processor_of}
use Rattle.pp_machine.specs.MachineStep.{step_outcome, stepped}
use Rattle.pp_processor.specs.NeedAndEffect.{need}
use Rattle.pp_machine.specs.Run.{run}
use Rattle.pp_processor.specs.declared.{need.Need.Need}
use Rattle.pp_machine.specs.declared.{trace.Trace.Trace}
use Rattle.pp_processor.specs.declared.need.Need.TheVariants.{Channel}
use Rattle.pp_processor.specs.declared.outcome.Outcome.TheVariants as outcomes
use Rattle.pp_run.specs.RunSteps.{RunStep, run_steps}
use Rattle.pp_text.proofs.HeldLemmas.{moves_where_made}
use Rattle.pp_run.specs.BareMachine.{progress}
use Rattle.pp_steps.specs.Choice.{chooses_channel, chooses_need, chooses_turn, chosen_steps, is_chosen}
use Rattle.pp_steps.specs.StepsLaw.{entry_of, event_on, is_chosen_event, line_event}
use Rattle.pp_steps.specs.StepsText.{line_kind, lines_from, with_lines}
use Rattle.pp_steps.specs.declared.{choice.Choice.Choice, cursor.LineKind.LineKind}
use Rattle.pp_steps.specs.declared.cursor.LineKind.TheVariants.{OneStep}
use Rattle.pp_run.specs.declared.progress.Progress.{Progress}
use Rattle.pp_run.specs.declared.progress.Progress.TheVariants.{Moved}

-- ---- the trace

trace_more : (n : ℕ) (m : MachineState) → (stepped n m).trace ≡ m.trace ++ entry_of n (need (processor_of n m)) m
unfolding stepped
trace_more n m = grind (arith, append-nil)

-- ---- a step that makes an event moves its processor

moved : (n : ℕ) (m : MachineState) → step_outcome n m ≡ outcomes.Moved → progress n m ≡ Moved
unfolding progress
moved n m e = grind arith

on_channel : (kind : LineKind) (n c : ℕ) (operation : ChanOp) (m : MachineState) (x : Need) (o : Option Event) → x ≡ Channel c operation → event_of operation (history_of c m) ≡ o → ((e : Event) → o ≡ Some e → kind ≡ OneStep)
    → entry_of n (need (processor_of n m)) m ≡ entry_of n x m → event_on kind n m ≡ entry_of n (need (processor_of n m)) m
on_channel kind n c operation m x o is made moves same = grind arith

none_on : (kind : LineKind) (n : ℕ) (m : MachineState) (x : Need) → x ≡ need (processor_of n m) → entry_of n x m ≡ [] → event_on kind n m ≡ entry_of n (need (processor_of n m)) m
none_on kind n m x is none = grind arith

by_need : (last : Progress) (n : ℕ) (m : MachineState) (steps : List Progress) (x : Need) → x ≡ need (processor_of n m) → event_on (line_kind last (progress n m) steps) n m ≡ entry_of n (need (processor_of n m)) m
by_need last n m steps (Channel c operation) is =
    on_channel (line_kind last (progress n m) steps) n c operation m (Channel c operation) (event_of operation (history_of c m)) refl refl
    (λ e made. ap (λ (p : Progress). line_kind last p steps) (moved n m (moves_where_made n c operation m e (sym is) made)))
    (ap (λ (y : Need). entry_of n y m) (sym is))
by_need last n m steps other is = none_on (line_kind last (progress n m) steps) n m other is refl

-- the event of a step, as an entry of the trace
abbrev entries_of : RunStep → List Trace
entries_of step = entry_of step.processor (need (processor_of step.processor step.before)) step.before

lines_events : (past steps : List RunStep) → flat_map line_event (lines_from past steps) ≡ flat_map entries_of steps
lines_events past [] = refl
lines_events past (step ∷ steps) = grind (arith, entries_of, lines_events (past ++ step ∷ []) steps, by_need)

-- ---- the trace of a run

traced : (steps : List ℕ) (load : MachineState) → (run steps load).trace ≡ load.trace ++ flat_map entries_of (run_steps steps load)
traced [] load = sym (append-nil load.trace)
traced (n ∷ steps) load = grind (arith, entries_of, trace_more, append_assoc, traced steps (stepped n load))

-- ---- the events of the steps chosen

nothing : (b : Bool) (entries : List Trace) → cond b entries entries ≡ entries
nothing b entries = grind arith

by_channel : (channels : Option (List Bool)) (c : ℕ) (operation : ChanOp) → chooses_channel channels c ≡ chooses_need channels (Channel c operation)
by_channel channels c operation = grind arith

chosen_entry : (choice : Choice) (n : ℕ) (m : MachineState) (x : Need) → filter (is_chosen_event choice) (entry_of n x m) ≡ cond (chooses_turn choice n m.turns && chooses_need choice.channels x) (entry_of n x m) []
chosen_entry choice n m x = grind (arith, by_channel, nothing)

chosen_events : (choice : Choice) (steps : List RunStep) → filter (is_chosen_event choice) (flat_map entries_of steps) ≡ flat_map entries_of (filter (is_chosen choice) steps)
chosen_events choice [] = refl
chosen_events choice (step ∷ steps) = grind (arith, filter-append, entries_of, chosen_entry, chosen_events choice steps)

pub events_told : (choice : Choice) (steps : List ℕ) (load : MachineState)
    → flat_map line_event (with_lines (chosen_steps choice steps load)) ≡ filter (is_chosen_event choice) (drop (length load.trace) (run steps load).trace)
events_told choice steps load = grind (arith, lines_events, chosen_events, traced, drop-append_seam, entries_of)
