use Rattle.pp_races.specs.Findings.{sharing_of}
use Rattle.pp_races.specs.Printing.{PrintsFindings}
use Rattle.pp_races.specs.Tables.{AreUses}
use Rattle.pp_races.specs.Watch.{Watch, each_below}
use Rattle.pp_races.proofs.printing.print_shared.Given as goal

abbrev pub invariant-loop-place : goal.invariant-loop-place
invariant-loop-place g l = (w : Watch) → AreUses w l.uses
    → PrintsFindings g.W.Write.contents l.fn.text l.text l.fn.verdict l.after (each_below l.place (sharing_of w))
