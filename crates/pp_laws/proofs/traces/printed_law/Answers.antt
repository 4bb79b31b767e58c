use Rattle.pp_laws.proofs.PrintedLawLemmas.{printed_events, printed_read}
use Rattle.pp_laws.proofs.traces.printed_law.Goals as goal

pub returns-clause-lawful : goal.returns-clause-lawful
returns-clause-lawful c = λ named m opened is opens. (printed_read named m opened is opens).lawful

pub returns-clause-events : goal.returns-clause-events
returns-clause-events c = printed_events
