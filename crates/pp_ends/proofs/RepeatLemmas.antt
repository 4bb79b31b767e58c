-- Machines that stand alike go on alike.
use Rattle.std.proofs.Common.{◌≡◌, ℕ, zero, suc, ◌+◌, ◌*◌, ◌%◌, List, [], ◌∷◌, length, slice_set, get_or, sym, ap, ◌∙◌, subst, arith, ◌<◌}
use Rattle.std.proofs.lemmas.Bool.{cases_lt}
use Rattle.std.proofs.lemmas.List.{get_or_past, ext_get_or}
use Rattle.pp_channel.specs.Answer.{channel_state}
use Rattle.pp_numbers.specs.ChannelNo.{channel_count}
use Rattle.pp_machine.specs.Headline.{HoldsOnEachChannel}
use Rattle.pp_machine.specs.MachineState.{MachineState, processor_of}
use Rattle.pp_machine.specs.MachineStep.{stepped}
use Rattle.pp_processor.specs.Processor.{no_processor}
use Rattle.pp_numbers.specs.PpNo.{processor_index, processor_number, processor_count, processor_places}
use Rattle.pp_numbers.specs.Profile.{processors_in}
use Rattle.pp_machine.specs.Run.{barrel, run}
use Rattle.pp_numbers.specs.declared.profile.Profile.{Profile}
use Rattle.pp_machine.proofs.RunLemmas.{run-both}
use Rattle.pp_run.proofs.StepFacts.{central_by, processors_by}
use Rattle.pp_run.proofs.AlikeLemmas.{answers_alike, central_alike, channels_alike}
use Rattle.pp_run.proofs.BarrelLemmas.{barrel_again}
pub use Rattle.pp_run.proofs.AlikeLemmas.{IsLawfulMachine, run_lawful}
use Rattle.pp_ends.specs.Ending.{Repeats, StandAlike, after_turns}

-- ---- one step

pub stepped_alike : (n : ℕ) (one other : MachineState) → IsLawfulMachine one → IsLawfulMachine other
    → StandAlike one other → StandAlike (stepped n one) (stepped n other)
stepped_alike n one other l k a = grind (arith, answers_alike, processors_by, slice_set, central_by, central_alike, channels_alike)

-- ---- a list of steps

pub run_alike : (ns : List ℕ) (one other : MachineState) → IsLawfulMachine one → IsLawfulMachine other
    → StandAlike one other → StandAlike (run ns one) (run ns other)
run_alike [] one other l k a = a
run_alike (n ∷ ns) one other l k a = grind (arith, stepped_alike, run_alike ns (stepped n one) (stepped n other) (run_lawful (n ∷ []) one l) (run_lawful (n ∷ []) other k) (stepped_alike n one other l k a))

-- ---- rounds

rounds_more : (p : Profile) (t n : ℕ) → t % processors_in p ≡ 0 → n % processors_in p ≡ 0
    → (t + n) % processors_in p ≡ 0
rounds_more p t n one other = grind arith

pub after_more : (t n : ℕ) (m : MachineState) → t % processors_in m.profile ≡ 0
    → after_turns (t + n) m ≡ run (barrel m.profile n) (after_turns t m)
after_more t n m whole = grind (arith, barrel_again, run-both)

-- after each number of periods
record StandsOn (t n k : ℕ) (m : MachineState) : Type 0 where
  rounds : (t + k * n) % processors_in m.profile ≡ 0
  alike : StandAlike (after_turns t m) (after_turns (t + k * n) m)

stands_on : (k t n : ℕ) (m : MachineState) → IsLawfulMachine m → Repeats t n m → StandsOn t n k m
stands_on zero t n m l r = grind arith
stands_on (suc k) t n m l r =
    let before = stands_on k t n m l r in
    let u = t + k * n in
    let next : u + n ≡ t + suc k * n = omega arith in
    let p = m.profile in
    let again : StandAlike (after_turns (t + n) m) (after_turns (u + n) m) =
    rw (after_more t n m r.first_rounds, after_more u n m before.rounds)
    (run_alike (barrel p n) (after_turns t m) (after_turns u m) (run_lawful (barrel p t) m l) (run_lawful (barrel p u) m l) before.alike) in
    record {
      rounds = subst (λ (v : ℕ). v % processors_in p ≡ 0) next (rounds_more p u n before.rounds r.rounds);
      alike = grind arith;
    }

pub repeats_on : (t n k : ℕ) (m : MachineState) → length m.histories ≡ channel_count
    → HoldsOnEachChannel m → Repeats t n m → StandAlike (after_turns t m) (after_turns (t + k * n) m)
repeats_on t n k m all headline r = (stands_on k t n m (record { channels = all; headline = headline }) r).alike

pub alike_by_places : (m k : MachineState) → length m.histories ≡ channel_count
    → length k.histories ≡ channel_count → length m.processors ≡ processor_count
    → length k.processors ≡ processor_count
    → ((j : ℕ) → j < channel_count → channel_state (get_or k.histories j []) ≡ channel_state (get_or m.histories j []))
    → ((j : ℕ) → j < processor_count → processor_of (processor_number j) m ≡ processor_of (processor_number j) k)
    → m.central ≡ k.central → StandAlike m k
alike_by_places m k hm hk pm pk channels processors central = record {
  processors = ext_get_or no_processor k.processors m.processors (pk ∙ sym pm) (λ j low.
      let below : j < processor_count = omega (arith, low, pk) in
      let place : processor_index (processor_number j) ≡ j = processor_places.place_of_number j below in
      ap (λ (i : ℕ). get_or k.processors i no_processor) (sym place)
      ∙ sym (processors j below) ∙ ap (λ (i : ℕ). get_or m.processors i no_processor) place);
  central = sym central;
  channels = grind (arith, cases_lt, get_or_past);
}
