-- The ending of a run is that of every longer one.
use Rattle.std.proofs.Common.{◌≡◌, ◌≢◌, ℕ, zero, suc, ◌+◌, ◌*◌, ◌<◌, ◌≤◌, refl, sym, ap, ◌∙◌, subst, inl, inr, arith, length, List, get_or}
use Rattle.std.proofs.lemmas.Bool.{cases_lt}
use Rattle.pp_numbers.specs.ChannelNo.{channel_count}
use Rattle.pp_machine.specs.Headline.{HoldsOnEachChannel}
use Rattle.pp_machine.specs.MachineState.{MachineState, processor_of}
use Rattle.pp_machine.specs.MachineStep.{stepped}
use Rattle.pp_processor.specs.Processor.{IsAtRest, Processor, no_processor}
use Rattle.pp_numbers.specs.PpNo.{processor_index}
use Rattle.pp_numbers.specs.Profile.{processor_in_turn}
use Rattle.pp_machine.specs.Run.{barrel}
use Rattle.pp_processor.specs.declared.pp_state.PpState.TheVariants.{Running}
use Rattle.pp_run.specs.Determinacy.{IsQuiet}
use Rattle.pp_ends.specs.declared.ending.Ending.{Ending}
use Rattle.pp_ends.specs.declared.ending.Ending.TheVariants as endings
use Rattle.pp_ends.specs.declared.ending.Ending.TheVariants.{AtRest, GoingOn, Stuck}
use Rattle.pp_ends.specs.Ending.{EndsQuietFrom, FirstRepeats, EndsWith, StandAlike, after_turns}
use Rattle.pp_ends.proofs.MoveLemmas.{kept_waits}
use Rattle.pp_ends.proofs.RepeatLemmas.{IsLawfulMachine, repeats_on, run_lawful, stepped_alike}
use Rattle.pp_ends.proofs.StillLemmas.{quiet_from, same_from}

-- ---- a run that ends quiet

ends_quiet : (t turns more : ℕ) (m : MachineState) → EndsQuietFrom t turns m → EndsQuietFrom t (turns + more) m
ends_quiet t turns more m e = record {
  still = record {
    within = omega (arith, e.still.within);
    waits = λ u low high. elim (cases_lt u turns) [
      | inl before ↦ e.still.waits u low before
      | inr after ↦ (quiet_from turns u m after e.quiet).waits (processor_in_turn m.profile u)
    ];
    first = e.still.first;
  };
  quiet = quiet_from turns (turns + more) m (omega arith) e.quiet;
}

-- its processors stay
same_processor : (t turns more n : ℕ) (m : MachineState) → EndsQuietFrom t turns m
    → processor_of n (after_turns turns m) ≡ processor_of n (after_turns (turns + more) m)
same_processor t turns more n m e =
    ap (λ (k : MachineState). processor_of n k) (same_from t turns m e)
    ∙ sym (ap (λ (k : MachineState). processor_of n k) (same_from t (turns + more) m (ends_quiet t turns more m e)))

-- ---- a run that repeats

-- of two machines that stand alike both are quiet, or none
quiet_alike : (one other : MachineState) → IsLawfulMachine one → IsLawfulMachine other
    → StandAlike one other → IsQuiet other → IsQuiet one
quiet_alike one other l k a q = record {
  waits = λ n.
      let place : (ms ks : MachineState) → StandAlike ms ks → processor_of n ks ≡ processor_of n ms =
      λ ms ks same. ap (λ (ps : List Processor). get_or ps (processor_index n) no_processor) same.processors in
      kept_waits n one
      (sym (place (stepped n one) (stepped n other) (stepped_alike n one other l k a))
      ∙ (q.waits n).processor ∙ place one other a);
}

at_least : (k n : ℕ) → 0 < n → k ≤ k * n
at_least zero n some = omega arith
at_least (suc k) n some = omega (arith, some, at_least k n some)

-- where it is quiet later, it is quiet when the repetition begins
quiet_before : (t n turns late : ℕ) (m : MachineState) → IsLawfulMachine m → FirstRepeats t n turns m
    → IsQuiet (after_turns late m) → IsQuiet (after_turns turns m)
quiet_before t n turns late m l r q =
    let u = t + late * n in
    let at_u = quiet_from late u m (omega (arith, at_least late n r.repeats.some)) q in
    let at_t = quiet_alike (after_turns t m) (after_turns u m)
    (run_lawful (barrel m.profile t) m l) (run_lawful (barrel m.profile u) m l)
    (repeats_on t n late m l.channels l.headline r.repeats) at_u in
    quiet_from t turns m (omega (arith, r.within)) at_t

-- ---- each ending

pub final_ending : (ending : Ending) (turns more : ℕ) (m : MachineState) → length m.histories ≡ channel_count
    → HoldsOnEachChannel m → ending ≢ GoingOn → EndsWith ending turns m → EndsWith ending (turns + more) m
final_ending (AtRest t) turns more m all headline ends e = record {
  ends = ends_quiet t turns more m e.ends;
  at_rest = λ n. subst IsAtRest (same_processor t turns more n m e.ends) (e.at_rest n);
}
final_ending (Stuck t) turns more m all headline ends e = record {
  ends = ends_quiet t turns more m e.ends;
  running = (e.running.0, subst (λ (pp : Processor). pp.state ≡ Running) (same_processor t turns more e.running.0 m e.ends) e.running.1);
}
final_ending (endings.Repeats t n) turns more m all headline ends (moves, r) = (
  λ quiet. moves (quiet_before t n turns (turns + more) m (record { channels = all; headline = headline }) r quiet),
  record { repeats = r.repeats; within = omega (arith, r.within); least = r.least; with_it = r.with_it },
)
final_ending GoingOn turns more m all headline ends e = absurd (ends refl)
