use Rattle.pp_report.proofs.ReportLemmas.{report_leaves}
use Rattle.pp_report.proofs.promises.serial_law.Goals as goal

pub returns : goal.returns
returns g c limits m report new said = report_leaves limits m report new said
