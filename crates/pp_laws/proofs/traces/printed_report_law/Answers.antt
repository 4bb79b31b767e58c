use Rattle.pp_laws.proofs.PrintedLawLemmas.{report_histories, report_read, stands_over}
use Rattle.pp_laws.proofs.traces.printed_report_law.Goals as goal

pub returns : goal.returns
returns g c = record {
  lawful = λ named limits m report opened is opens. (report_read named report opened (stands_over named limits m report opened is opens)).lawful;
  histories = λ named limits m report opened is opens. report_histories named report opened (stands_over named limits m report opened is opens);
}
