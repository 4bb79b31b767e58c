use Rattle.std.proofs.Common.{◌≡◌, ◌++◌}
use Rattle.pp_numbers.specs.PpNo.{processor_number}
use Rattle.pp_races.specs.Tables.{closing_findings}
use Rattle.pp_races.specs.Watch.{each_below}
use Rattle.pp_races.proofs.CloseLemmas.{AreClosedBelow}
use Rattle.pp_races.proofs.watch.close_all.Given as goal

abbrev pub invariant-loop-place : goal.invariant-loop-place
invariant-loop-place g l = record {
  closed : AreClosedBelow l.made l.after l.initial.looks l.looks l.place;
  found : l.findings.items ≡ l.initial.findings.items
      ++ each_below l.place (λ k. closing_findings l.made l.after l.initial.looks (processor_number k));
}
