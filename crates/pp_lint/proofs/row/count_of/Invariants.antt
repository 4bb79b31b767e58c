use Rattle.std.proofs.Common.{◌≡◌, ◌+◌, length}
use Rattle.pp_lint.proofs.row.count_of.Given as goal

abbrev pub invariant-loop-count : goal.invariant-loop-count
invariant-loop-count l = l.count + length l.fields ≡ length l.fn.fields

abbrev pub decreases-loop-count : goal.decreases-loop-count
decreases-loop-count l = length l.fields
