use Rattle.std.proofs.Common.{◌≡◌, ◌+◌, ◌≤◌, length}
use Rattle.std.specs.Prelude.{◌^◌}
use Rattle.std.specs.List.{count_by}
use Rattle.pp_test.specs.Expectations.{expectations}
use Rattle.pp_test.specs.Reading.{has_expectation}
use Rattle.pp_test.proofs.every_order.expectation_count.Given as goal

abbrev pub invariant-loop-line : goal.invariant-loop-line
invariant-loop-line l = record {
  counted : l.count + count_by has_expectation l.left ≡ length (expectations l.deck);
  few : l.count + length l.left ≤ 2 ^ 62 + 1;
}

abbrev pub decreases-loop-line : goal.decreases-loop-line
decreases-loop-line l = length l.left
