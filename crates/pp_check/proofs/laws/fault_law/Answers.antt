use Rattle.pp_check.proofs.FaultLemmas.{first_fault, no_fault, one_fault}
use Rattle.pp_check.proofs.laws.fault_law.Goals as goal

pub returns-clause-first : goal.returns-clause-first
returns-clause-first c = λ opened text fault is k within. first_fault opened text fault is k

pub returns-clause-one : goal.returns-clause-one
returns-clause-one c = one_fault

pub returns-clause-none : goal.returns-clause-none
returns-clause-none c = no_fault
