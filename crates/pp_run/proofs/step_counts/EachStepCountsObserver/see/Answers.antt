use Rattle.std.proofs.Common.{◌∷◌, ◌++◌, [], ap, ◌∙◌, arith}
use Rattle.pp_processor.specs.declared.outcome.Outcome.{Outcome}
use Rattle.pp_run.specs.RunSteps.{outcome_of, seen_of}
use Rattle.pp_run.proofs.RunStepLemmas.{counted_at, counted_more, few_seen}
use Rattle.pp_run.specs.StepCounts.{counts_of, no_steps}
use Rattle.pp_run.proofs.step_counts.EachStepCountsObserver.see.Goals as goal

pub returns-clause-seen : goal.returns-clause-seen
returns-clause-seen g c start seen step note made few are =
    let own = seen_of outcome_of c.args.n seen in
    let place = c.index.ensures in
    counted_more outcome_of counts_of no_steps c.args.self.now.0 seen step c.args.n c.index.result _ are place.place place.below made.processor_is
    (c.with.ensures own (omega (arith, few, few_seen outcome_of c.args.n seen)) (counted_at outcome_of counts_of no_steps c.args.self.now.0 seen c.args.n c.index.result are place.place place.below)
    ∙ ap (λ (o : Outcome). counts_of (own ++ o ∷ [])) made.outcome_is)
