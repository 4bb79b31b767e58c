use Rattle.pp_test.proofs.EveryOrderLemmas.{ending_law, quiet_law}
use Rattle.pp_test.proofs.law.every_order_law.Goals as goal

pub returns-clause-quiet_end : goal.returns-clause-quiet_end
returns-clause-quiet_end c = quiet_law

pub returns-clause-no_other : goal.returns-clause-no_other
returns-clause-no_other c = ending_law
