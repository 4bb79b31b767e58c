use Rattle.std.proofs.Common.{◌≡◌, List, length}
use Rattle.pp_lint.specs.FirstLines.{Shows}
use Rattle.pp_lint.specs.Given.{Note}
use Rattle.pp_lint.specs.StraightLine.{behind_all}
use Rattle.pp_lint.proofs.straight_line.behind_all.Given as goal

abbrev pub invariant-loop-i : goal.invariant-loop-i
invariant-loop-i g l = (notes : List Note) → Shows l.firsts notes
    → behind_all l.profile notes l.n l.reached l.instructions ≡ behind_all l.profile notes l.n l.fn.reached l.fn.instructions

abbrev pub decreases-loop-i : goal.decreases-loop-i
decreases-loop-i g l = length l.instructions
