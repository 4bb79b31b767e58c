use Rattle.std.proofs.Common.{List}
use Rattle.pp_lint.specs.FirstLines.{Shows}
use Rattle.pp_lint.specs.Given.{Note}
use Rattle.pp_lint.proofs.WarningLemmas.{HasNoneBelow}
use Rattle.pp_lint.proofs.warnings.has_words.Given as goal

abbrev pub invariant-loop-place : goal.invariant-loop-place
invariant-loop-place g l = (notes : List Note) → Shows l.fn.firsts notes → HasNoneBelow notes l.n l.place
