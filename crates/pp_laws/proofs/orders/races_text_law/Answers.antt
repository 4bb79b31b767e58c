use Rattle.pp_sim.specs.TextOf.{run_of}
use Rattle.pp_laws.proofs.RacesLemmas.{same_means, so_far_means}
use Rattle.pp_laws.proofs.orders.races_text_law.Goals as goal

pub returns-clause-quiet : goal.returns-clause-quiet
returns-clause-quiet c = λ first turns deck text before told same.
    c.determinacy_law.ensures.quiet (run_of first turns deck) deck.machine told.machine.processors told.machine.channels
    (same_means first turns deck text before told same)

pub returns-clause-parts : goal.returns-clause-parts
returns-clause-parts c = λ first turns deck text before others told same.
    c.determinacy_law.ensures.parts (run_of first turns deck) others deck.machine told.machine.processors told.machine.channels
    (same_means first turns deck text before told same)

pub returns-clause-result : goal.returns-clause-result
returns-clause-result c = λ first turns deck text before others told same quiet.
    c.determinacy_law.ensures.result (run_of first turns deck) others deck.machine told.machine.processors told.machine.channels
    (same_means first turns deck text before told same) quiet

pub returns-clause-going_on : goal.returns-clause-going_on
returns-clause-going_on c = λ first turns deck text before others told same stands.
    c.determinacy_law.ensures.going_on (run_of first turns deck) others deck.machine told.machine.processors told.machine.channels
    (same_means first turns deck text before told same) stands

pub returns-clause-ending : goal.returns-clause-ending
returns-clause-ending c = λ first turns deck text before told same.
    c.determinacy_law.ensures.ending (run_of first turns deck) deck.machine told.machine.processors told.machine.channels
    (same_means first turns deck text before told same)

pub returns-clause-so_far : goal.returns-clause-so_far
returns-clause-so_far c = so_far_means
