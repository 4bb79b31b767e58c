use Rattle.pp_report.proofs.ReportLawLemmas.{only_openings}
use Rattle.pp_report.proofs.laws.author_law.Goals as goal

pub returns : goal.returns
returns g c = only_openings
