use Rattle.pp_steps.specs.Choice.{chosen_steps}
use Rattle.pp_steps.proofs.EventLawLemmas.{events_told}
use Rattle.pp_steps.proofs.StepLawLemmas.{steps_all_told}
use Rattle.pp_steps.proofs.laws.steps_law.Goals as goal

pub returns-clause-events : goal.returns-clause-events
returns-clause-events c = λ choice steps load. events_told choice steps load

pub returns-clause-steps : goal.returns-clause-steps
returns-clause-steps c = λ choice n steps load. steps_all_told n (chosen_steps choice steps load)
