use Rattle.pp_test.proofs.VerdictLemmas.{held_all}
use Rattle.pp_test.proofs.law.held_law.Goals as goal

pub returns : goal.returns
returns c = held_all
