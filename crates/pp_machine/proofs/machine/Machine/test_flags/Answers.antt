use Rattle.std.proofs.Common.{arith}
use Rattle.std.proofs.lemmas.List.{length-set}
use Rattle.pp_machine.proofs.MachineStepLemmas.{stepped_alone, stepped_by_probe, outcome_alone, outcome_by_probe}
use Rattle.pp_machine.proofs.TakenLemmas.{own_processor, taken_by, moved_alone, if_found, if_missing, with_processors}
use Rattle.pp_machine.proofs.machine.Machine.test_flags.Goals as goal

pub give_local-fault-requires-clause-next : goal.give_local-fault-requires-clause-next
give_local-fault-requires-clause-next g c = grind (arith, own_processor)

pub give_local-fault-requires-clause-fits : goal.give_local-fault-requires-clause-fits
give_local-fault-requires-clause-fits g c = grind (arith, own_processor, if_missing)

pub invariant_of-self : goal.invariant_of-self
invariant_of-self g c = grind (arith, with_processors, length-set)

pub returns-in_default-clause-stepped : goal.returns-in_default-clause-stepped
returns-in_default-clause-stepped g c = grind (arith, own_processor, if_missing, taken_by, stepped_alone)

pub returns-in_default-clause-outcome : goal.returns-in_default-clause-outcome
returns-in_default-clause-outcome g c = grind (arith, if_missing, outcome_alone, moved_alone)

pub test_flags-requires-clause-fits : goal.test_flags-requires-clause-fits
test_flags-requires-clause-fits g c = grind (arith, own_processor, if_found)

pub invariant_of-self-2 : goal.invariant_of-self-2
invariant_of-self-2 g c = grind (arith, with_processors, length-set)

pub returns-clause-stepped : goal.returns-clause-stepped
returns-clause-stepped g c = grind (arith, own_processor, if_found, taken_by, stepped_by_probe)

pub returns-clause-outcome : goal.returns-clause-outcome
returns-clause-outcome g c = grind (arith, own_processor, if_found, outcome_by_probe)
