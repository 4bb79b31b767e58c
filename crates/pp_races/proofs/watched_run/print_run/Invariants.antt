use Rattle.std.proofs.Common.{length, take}
use Rattle.pp_races.specs.Printing.{PrintsFindings}
use Rattle.pp_races.specs.Watch.{unwatched, watched}
use Rattle.pp_races.specs.declared.verdict.Verdict.TheVariants.{Same}
use Rattle.pp_races.specs.WatchTables.{AreTables}
use Rattle.pp_races.proofs.GrowLemmas.{forgotten}
use Rattle.pp_races.proofs.RunLemmas.{IsWatchedRun}
use Rattle.pp_races.proofs.watched_run.print_run.Given as goal

abbrev pub invariant-loop-n : goal.invariant-loop-n
invariant-loop-n g l = record {
  run : IsWatchedRun l.fn.order l.n-index l.fn.machine l.machine;
  kept : AreTables l.tables (length l.fn.machine.central) (forgotten (watched (take l.n-index l.fn.order) l.fn.machine unwatched));
  printed : PrintsFindings g.W.Write.contents l.fn.text l.text Same l.verdict (watched (take l.n-index l.fn.order) l.fn.machine unwatched).findings;
}
