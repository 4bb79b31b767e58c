use Rattle.std.proofs.Common.{◌≡◌, ℕ, refl, sym, ◌∙◌, subst, inl, inr, arith}
use Rattle.std.proofs.lemmas.Bool.{cases_eq}
use Rattle.pp_machine.specs.MachineState.{processor_of}
use Rattle.pp_numbers.specs.PpNo.{processor_number}
use Rattle.pp_ends.proofs.RepeatLemmas.{alike_by_places}
use Rattle.pp_ends.proofs.alike.difference.Goals as goal

pub loop-place-2-init : goal.loop-place-2-init
loop-place-2-init g c = record {
  channels = λ m k one two j low. c.loop-place.invariant m k one two j (omega (arith, low, c.loop-place-test.false));
  processors = λ m k one two j low. absurd (omega (arith, low));
}

pub loop-place-2-preserved : goal.loop-place-2-preserved
loop-place-2-preserved g c = record {
  channels = c.loop-place-2.invariant.channels;
  processors = λ m k one two j low. elim (cases_eq j c.loop-place-2.place) [
    | inl same ↦ subst (λ (q : ℕ). processor_of (processor_number q) m ≡ processor_of (processor_number q) k) (sym same)
        (subst (λ (q : ℕ). processor_of q m ≡ processor_of q k) c.at-n.ensures.number
        (sym (c.pp.ensures.value m one) ∙ c.in_default.ensures.same refl ∙ c.pp-in-loop-place-2.ensures.value k two))
    | inr other ↦ c.loop-place-2.invariant.processors m k one two j (omega (arith, low, other))
  ];
}

pub returns-in-None-clause-alike : goal.returns-in-None-clause-alike
returns-in-None-clause-alike g c = grind (arith, alike_by_places)
