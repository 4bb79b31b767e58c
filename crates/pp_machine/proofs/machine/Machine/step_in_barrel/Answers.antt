use Rattle.std.proofs.Common.{◌≡◌, ◌<◌, Some, length, arith, refl, sym, ap, ◌∙◌, subst}
use Rattle.std.specs.Prelude.{if◌then◌else◌}
use Rattle.std.proofs.lemmas.List.{length-set}
use Rattle.pp_channel.specs.declared.chan_op.ChanOp.TheVariants.{Probe}
use Rattle.pp_processor.specs.NextStep.{IsNext}
use Rattle.pp_machine.specs.MachineState.{MachineState, processor_of}
use Rattle.pp_machine.specs.MachineStep.{IsStep, stepped, step_outcome}
use Rattle.pp_processor.specs.NeedAndEffect.{need}
use Rattle.pp_processor.specs.Processor.{Processor}
use Rattle.pp_numbers.specs.Profile.{has_channel}
use Rattle.pp_processor.specs.declared.need.Need.TheVariants.{Local, Channel}
use Rattle.pp_machine.proofs.MachineStepLemmas.{stepped_alone, outcome_alone}
use Rattle.pp_machine.proofs.TakenLemmas.{own_processor, taken_by, same_machine, with_processors}
use Rattle.pp_machine.proofs.machine.Machine.step_in_barrel.Goals.{in-Some+else-step_internal+else-tests_flags, in_default-next}
use Rattle.pp_machine.proofs.machine.Machine.step_in_barrel.Goals as goal

pub step_internal-requires : goal.step_internal-requires
step_internal-requires g c =
    let within : c.index-i.result < length c.self.inside.processors.items = omega (arith, c.index-i.ensures.below, c.self.invariant.processors) in
    let read = own_processor c.args.n c.self.view_is c.index-i.ensures.place within c.index-2.ensures in
    let lent = own_processor c.args.n c.self.view_is c.index-i.ensures.place within c.index_mut.ensures.value in
    subst (λ (pp : Processor). IsNext (Some c.in-Some.op) c.next_instruction-next.result.1 pp) (read ∙ sym lent) (rw c.in-Some.is at c.next_instruction-next.ensures)

pub invariant_of-self : goal.invariant_of-self
invariant_of-self g c = grind (arith, with_processors, length-set)

pub returns-then-step_internal-clause-step : goal.returns-then-step_internal-clause-step
returns-then-step_internal-clause-step g c = grind (arith, own_processor, taken_by, stepped_alone, outcome_alone)

pub tests_flags-requires : goal.tests_flags-requires
tests_flags-requires g c =
    let within : c.index-i.result < length c.self.inside.processors.items = omega (arith, c.index-i.ensures.below, c.self.invariant.processors) in
    let read = own_processor c.args.n c.self.view_is c.index-i.ensures.place within c.index-2.ensures in
    let again = own_processor c.args.n (same_machine c.index-i.result c.self.view_is c.index_mut.ensures.value c.if-step_internal.ensures.otherwise) c.index-i.ensures.place
    (subst (λ k. c.index-i.result < k) (sym (length-set c.self.inside.processors.items c.index-i.result c.step_internal.new.self)) within) c.index-in-Some.ensures in
    subst (λ (pp : Processor). IsNext (Some c.in-Some.op) c.next_instruction-next.result.1 pp) (read ∙ sym again) (rw c.in-Some.is at c.next_instruction-next.ensures)

pub invariant_of-self-then-tests_flags : goal.invariant_of-self-then-tests_flags
invariant_of-self-then-tests_flags g c = grind (arith, with_processors, length-set)

pub test_flags-requires-clause-next : goal.test_flags-requires-clause-next
test_flags-requires-clause-next g c =
    let read = own_processor c.args.n c.self.view_is c.index-i.ensures.place (omega (arith, c.index-i.ensures.below, c.self.invariant.processors)) c.index-2.ensures in
    subst (λ (m : MachineState). IsNext (Some c.in-Some.op) c.next_instruction-next.result.1 (processor_of c.args.n m)) (sym (same_machine c.index-i.result c.self.view_is c.index_mut.ensures.value c.if-step_internal.ensures.otherwise))
    (subst (λ (pp : Processor). IsNext (Some c.in-Some.op) c.next_instruction-next.result.1 pp) read (rw c.in-Some.is at c.next_instruction-next.ensures))

pub test_flags-requires-clause-probes : goal.test_flags-requires-clause-probes
test_flags-requires-clause-probes g c =
    let within : c.index-i.result < length c.self.inside.processors.items = omega (arith, c.index-i.ensures.below, c.self.invariant.processors) in
    let same = same_machine c.index-i.result c.self.view_is c.index_mut.ensures.value c.if-step_internal.ensures.otherwise in
    let again = own_processor c.args.n same c.index-i.ensures.place
    (subst (λ k. c.index-i.result < k) (sym (length-set c.self.inside.processors.items c.index-i.result c.step_internal.new.self)) within) c.index-in-Some.ensures in
    let once_more = own_processor c.args.n same c.index-i.ensures.place
    (subst (λ k. c.index-i.result < k) (sym (length-set c.self.inside.processors.items c.index-i.result c.step_internal.new.self)) within) c.index-then-tests_flags.ensures in
    ap (λ (m : MachineState). need (processor_of c.args.n m)) same ∙ (ap need (sym again) ∙ c.if-tests_flags.ensures ∙ ap (λ p. if has_channel p c.next_instruction-next.result.1 then Channel c.next_instruction-next.result.1 Probe else Local) (ap (λ (pp : Processor). pp.profile) (again ∙ sym once_more) ∙ sym c.profile-profile.ensures))

pub returns-then-tests_flags-clause-step : goal.returns-then-tests_flags-clause-step
returns-then-tests_flags-clause-step g c =
    let same = same_machine c.index-i.result c.self.view_is c.index_mut.ensures.value c.if-step_internal.ensures.otherwise in
    record {
      ok = c.test_flags.ensures.stepped ∙ ap (stepped c.args.n) same;
      outcome = sym c.test_flags.ensures.outcome ∙ ap (step_outcome c.args.n) same;
      unchanged_after_memory = tt;
      no_event = λ none. refl;
    }

pub invariant_of-self-else-tests_flags : goal.invariant_of-self-else-tests_flags
invariant_of-self-else-tests_flags g c = grind (arith, with_processors, length-set)

pub step_external-requires : goal.step_external-requires
step_external-requires g c =
    let read = own_processor c.args.n c.self.view_is c.index-i.ensures.place (omega (arith, c.index-i.ensures.below, c.self.invariant.processors)) c.index-2.ensures in
    let same : c.match-next.self ≡ c.args.self.now = elim c.match-next.branch [
      | in-Some+else-step_internal+else-tests_flags w ↦ w.self-is ∙ same_machine c.index-i.result c.self.view_is w.index_mut.ensures.value w.if-step_internal.ensures.otherwise
      | in_default-next w ↦ w.self-is
    ] in
    subst (λ (pp : Processor). IsNext c.next_instruction-next.result.0 c.next_instruction-next.result.1 pp) (read ∙ ap (processor_of c.args.n) (sym same)) c.next_instruction-next.ensures

pub returns-clause-step : goal.returns-clause-step
returns-clause-step g c =
    let same : c.match-next.self ≡ c.args.self.now = elim c.match-next.branch [
      | in-Some+else-step_internal+else-tests_flags w ↦ w.self-is ∙ same_machine c.index-i.result c.self.view_is w.index_mut.ensures.value w.if-step_internal.ensures.otherwise
      | in_default-next w ↦ w.self-is
    ] in
    subst (λ (m : MachineState). IsStep c.args.n c.step_external.result m c.step_external.new.self) same c.step_external.ensures.step
