use Rattle.std.proofs.Common.{◌≡◌}
use Rattle.ppsim_tests.proofs.threads.lines.act_in_turn.Given as goal

abbrev pub invariant-loop-turn : goal.invariant-loop-turn
invariant-loop-turn g l = record {
  shares : l.line.view.shares ≡ l.initial.line.view.shares;
  whole : l.line.view.whole ≡ l.initial.line.view.whole;
  table : l.line.table ≡ l.initial.line.table;
}
