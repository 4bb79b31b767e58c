use Rattle.std.proofs.Common.{ℕ, ◌+◌, ◌<◌}
use Rattle.pp_run.specs.BareMachine.{StandsFor}
use Rattle.pp_ends.specs.Rounds.{AreAlikeAfter, after_rounds}
use Rattle.pp_ends.proofs.rounds.find_start.Given as goal

abbrev pub invariant-loop-start : goal.invariant-loop-start
invariant-loop-start g l = record {
  early : StandsFor l.early (after_rounds l.start l.machine);
  late : StandsFor l.late (after_rounds (l.start + l.period) l.machine);
  none : (k : ℕ) → k < l.start → ¬ AreAlikeAfter k (k + l.period) l.machine;
}
