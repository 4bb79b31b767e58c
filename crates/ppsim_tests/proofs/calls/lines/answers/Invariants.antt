use Rattle.std.proofs.Common.{◌≡◌}
use Rattle.ppsim_tests.proofs.calls.lines.answers.Given as goal

abbrev pub invariant-loop-op : goal.invariant-loop-op
invariant-loop-op g l = record {
  shares : l.line.view.shares ≡ l.initial.line.view.shares;
  whole : l.line.view.whole ≡ l.initial.line.view.whole;
  table : l.line.table ≡ l.initial.line.table;
}
