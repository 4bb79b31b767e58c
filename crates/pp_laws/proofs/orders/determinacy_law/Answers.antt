use Rattle.pp_laws.proofs.DeterminacyLemmas.{one_ending}
use Rattle.pp_laws.proofs.orders.determinacy_law.Goals as goal

pub returns-clause-ending : goal.returns-clause-ending
returns-clause-ending c = λ ns m all each d. one_ending ns m all each d
