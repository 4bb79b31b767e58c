use Rattle.pp_check.specs.LawfulTrace.{history}
use Rattle.pp_check.proofs.FaultLemmas.{turns_rise}
use Rattle.pp_check.proofs.laws.trace_law.Goals as goal

pub returns-clause-turns : goal.returns-clause-turns
returns-clause-turns c = turns_rise

pub returns-clause-sessions : goal.returns-clause-sessions
returns-clause-sessions c = λ opened lines lawful n. c.session_law.ensures (history opened lines n) (lawful.histories n)
