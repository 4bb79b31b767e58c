use Rattle.std.proofs.Common.{sym, subst, append-nil}
use Rattle.pp_text.specs.TextWriter.{Prints}
use Rattle.pp_races.specs.RacesText.{finding_line}
use Rattle.pp_races.proofs.printing.print_finding.Goals as goal

pub returns : goal.returns
returns g c = record {
  lines = subst (Prints _ _ _) (sym (append-nil (finding_line c.args.finding.now))) c.print_finding_line.ensures;
  verdict = c.with.ensures;
}
