use Rattle.std.proofs.Common.{◌≡◌, ℕ, ◌+◌, List}
use Rattle.pp_lint.specs.FirstLines.{Shows}
use Rattle.pp_lint.specs.Given.{Note}
use Rattle.pp_lint.proofs.WarningLemmas.{NoneIsBefore}
use Rattle.pp_lint.proofs.warnings.first_twice.Given as goal

abbrev pub invariant-loop-i : goal.invariant-loop-i
invariant-loop-i g l = (k : ℕ) (notes : List Note) → Shows l.fn.firsts notes → l.number ≡ k + 1 → NoneIsBefore k notes l.fn.row l.i
