-- Whether steps move, by where their processors stand before and after them.
use Rattle.std.proofs.Common.{◌≡◌, ℕ, ◌<◌, ◌≤◌, Bool, true, false, not, IsTrue, length, refl, sym, ◌∙◌, subst, inl, inr, arith}
use Rattle.std.specs.Prelude.{◌↔◌}
use Rattle.std.proofs.lemmas.Bool.{cases_lt}
use Rattle.std.proofs.lemmas.List.{get_or_past}
use Rattle.pp_machine.specs.MachineState.{MachineState, processor_of}
use Rattle.pp_machine.specs.MachineStep.{answer_to}
use Rattle.pp_processor.specs.NeedAndEffect.{need, processor_after}
use Rattle.pp_processor.specs.PpMemory.{IsMemory}
use Rattle.pp_numbers.specs.PpNo.{processor_count, processor_index, processor_number, processor_places}
use Rattle.pp_processor.specs.Processor.{IsAtRest, Processor, no_processor}
use Rattle.pp_processor.proofs.StepLemmas.{rest_changes_nothing}
use Rattle.pp_run.specs.Determinacy.{IsQuiet, Waits}
use Rattle.pp_run.proofs.StepFacts.{own_step}
use Rattle.pp_ends.specs.declared.progress_mark.ProgressMark.{ProgressMark}
use Rattle.pp_ends.specs.Ending.{TellsMove, TellsRunning}
use Rattle.pp_ends.specs.ProgressMark.{mark_of}
use Rattle.pp_ends.proofs.MoveLemmas.{kept_waits}
use Rattle.pp_ends.proofs.ProgressMarkLemmas.{stands_still}

pub by_same : (n : ℕ) (m : MachineState) (before after : ProgressMark) (same : Bool)
    → IsMemory (processor_of n m).memory → before ≡ mark_of (processor_of n m)
    → after ≡ mark_of (processor_after (processor_of n m) (answer_to (need (processor_of n m)) m))
    → IsTrue same ↔ (after ≡ before) → TellsMove (not same) n m
by_same n m before after same memory was is h4 = grind (arith, kept_waits, own_step, stands_still)

-- a processor that no machine has waits
pub waits_unnamed : (n : ℕ) (m : MachineState) → length m.processors ≤ processor_index n → Waits n m
waits_unnamed n m past =
    let absent : processor_of n m ≡ no_processor = get_or_past m.processors (processor_index n) no_processor past in
    let rests : IsAtRest (processor_of n m) = subst (λ (pp : Processor). IsAtRest pp) (sym absent) (λ bad. cc) in
    kept_waits n m (own_step n m ∙ rest_changes_nothing (processor_of n m) _ rests)

-- each processor by its place
pub quiet_by_places : (m : MachineState) → length m.processors ≡ processor_count
    → ((k : ℕ) → k < processor_count → Waits (processor_number k) m) → IsTrue true ↔ IsQuiet m
quiet_by_places m all waits = (
  λ _. record {
    waits = λ n. elim (cases_lt (processor_index n) processor_count) [
      | inl below ↦ subst (λ (k : ℕ). Waits k m) (processor_places.number_of_place n (processor_places.named_below n below)) (waits (processor_index n) below)
      | inr past ↦ waits_unnamed n m (omega (arith, all, past))
    ];
  },
  λ _. refl,
)

-- no processor is running
pub at_rest_by_places : (m : MachineState) → length m.processors ≡ processor_count
    → ((k : ℕ) → k < processor_count → IsAtRest (processor_of (processor_number k) m))
    → TellsRunning false m
at_rest_by_places m all rest = record {
  running = λ bad. absurd (cc);
  at_rest = λ n. elim (cases_lt (processor_index n) processor_count) [
    | inl below ↦ subst (λ (k : ℕ). IsAtRest (processor_of k m)) (processor_places.number_of_place n (processor_places.named_below n below)) (rest (processor_index n) below)
    | inr past ↦ grind (arith, get_or_past)
  ];
}
