use Rattle.std.proofs.Common.{take}
use Rattle.pp_races.specs.Printing.{PrintsFindings}
use Rattle.pp_races.proofs.printing.print_findings.Given as goal

abbrev pub invariant-loop-finding : goal.invariant-loop-finding
invariant-loop-finding g l = PrintsFindings g.W.Write.contents l.fn.text l.text l.fn.verdict l.after (take l.finding-index l.findings)
