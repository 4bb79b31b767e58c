use Rattle.pp_report.proofs.ReportLawLemmas.{histories_told, openings_told, report_tells}
use Rattle.pp_report.proofs.laws.report_law.Goals as goal

pub returns : goal.returns
returns g c = record {
  text = report_tells;
  histories = histories_told;
  dead_start = openings_told;
}
