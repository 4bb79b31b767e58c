use Rattle.pp_sim.specs.TextOf.{run_of}
use Rattle.pp_laws.proofs.RacesLemmas.{same_means}
use Rattle.pp_laws.proofs.orders.races_report_law.Goals as goal

pub returns-clause-parts : goal.returns-clause-parts
returns-clause-parts g c = λ profile bytes text before deck first turns limits report is told same said.
    c.one_run_law.ensures.parts profile bytes deck (run_of first turns deck) limits report is
    (same_means first turns deck text before told same) said

pub returns-clause-result : goal.returns-clause-result
returns-clause-result g c = λ profile bytes text before deck first turns limits report is told same said over.
    c.one_run_law.ensures.result profile bytes deck (run_of first turns deck) limits report is
    (same_means first turns deck text before told same) said over
