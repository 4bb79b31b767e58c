use Rattle.std.proofs.Common.{◌<◌, length, subst, arith}
use Rattle.pp_numbers.specs.PpNo.{processor_index}
use Rattle.pp_machine.specs.MachineState.{MachineState}
use Rattle.pp_machine.proofs.MachineStepLemmas.{held_step, fault_step}
use Rattle.pp_machine.proofs.machine.Machine.step.Goals as goal

pub returns-clause-step : goal.returns-clause-step
returns-clause-step g c = c.step_external.ensures.step

pub returns-clause-held : goal.returns-clause-held
returns-clause-held g c = held_step c.args.n _ _ _ c.step_external.ensures.step.ok c.step_external.ensures.step.outcome

pub returns-clause-fault_keeps : goal.returns-clause-fault_keeps
returns-clause-fault_keeps g c =
    let within = subst (λ (m : MachineState). processor_index c.args.n < length m.processors) c.self.view_is
    (omega (arith, c.index.ensures.place, c.index.ensures.below, c.self.invariant.processors)) in
    fault_step c.args.n _ _ _ within c.step_external.ensures.step.ok c.step_external.ensures.step.unchanged_after_memory

pub returns-clause-headline : goal.returns-clause-headline
returns-clause-headline g c = c.step_external.ensures.headline
