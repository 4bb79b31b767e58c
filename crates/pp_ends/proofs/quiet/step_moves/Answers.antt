use Rattle.std.proofs.Common.{ap, ◌∙◌, subst}
use Rattle.pp_machine.specs.MachineStep.{stepped}
use Rattle.pp_processor.specs.PpMemory.{IsMemory}
use Rattle.pp_processor.specs.Processor.{Processor}
use Rattle.pp_run.proofs.StepFacts.{own_step}
use Rattle.pp_ends.specs.ProgressMark.{mark_of}
use Rattle.pp_ends.proofs.QuietLemmas.{by_same}
use Rattle.pp_ends.proofs.quiet.step_moves.Goals as goal

pub returns-clause-moved : goal.returns-clause-moved
returns-clause-moved g c = λ m stands.
    let n = c.args.n in
    let was = c.pp.ensures.value m stands in
    by_same n m c.of-before.result c.of-after.result c.is_same.result
    (subst (λ (pp : Processor). IsMemory pp.memory) was c.of-before.ensures.widths.memory)
    (c.of-before.ensures.mark ∙ ap mark_of was)
    (c.of-after.ensures.mark ∙ ap mark_of (c.pp-2.ensures.value (stepped n m) (c.step-progress.ensures.stepped m stands) ∙ own_step n m))
    c.is_same.ensures
