use Rattle.pp_condition.proofs.UntilLemmas.{before_the_first, last_meets, one_end}
use Rattle.pp_condition.proofs.laws.until_law.Goals as goal

pub returns-clause-before : goal.returns-clause-before
returns-clause-before c = before_the_first

pub returns-clause-last : goal.returns-clause-last
returns-clause-last c = last_meets

pub returns-clause-one : goal.returns-clause-one
returns-clause-one c = one_end
