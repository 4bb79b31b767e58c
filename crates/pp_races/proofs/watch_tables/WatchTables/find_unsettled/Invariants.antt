use Rattle.std.proofs.Common.{ℕ, ◌<◌}
use Rattle.pp_numbers.specs.PpNo.{processor_number}
use Rattle.pp_races.specs.Findings.{end_of}
use Rattle.pp_races.specs.Soundness.{TurnTestIsExact}
use Rattle.pp_races.specs.Watch.{Watch, each_below}
use Rattle.pp_races.specs.WatchTables.{AreTables, finds}
use Rattle.pp_races.proofs.watch_tables.WatchTables.find_unsettled.Given as goal

abbrev pub invariant-loop-place : goal.invariant-loop-place
invariant-loop-place g l = record {
  found : (size : ℕ) (w : Watch) → AreTables l.initial.self size w
      → AreTables l.self size (finds (each_below l.place (λ k. end_of l.machine w (processor_number k))) w);
  turns : (k : ℕ) → k < l.place → TurnTestIsExact l.machine (processor_number k);
}
