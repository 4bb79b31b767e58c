use Rattle.std.proofs.Common.{ℕ, ◌+◌, ◌≤◌}
use Rattle.pp_run.specs.BareMachine.{StandsFor}
use Rattle.pp_ends.specs.Rounds.{AreAlikeAfter, after_rounds}
use Rattle.pp_ends.proofs.rounds.find_period.Given as goal

abbrev pub invariant-loop-passed : goal.invariant-loop-passed
invariant-loop-passed g l = record {
  later : StandsFor l.later (after_rounds (l.rounds + l.passed) l.machine);
  none : (k : ℕ) → 1 ≤ k → k ≤ l.passed → ¬ AreAlikeAfter l.rounds (l.rounds + k) l.machine;
}
