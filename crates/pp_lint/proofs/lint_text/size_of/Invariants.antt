use Rattle.std.proofs.Common.{length}
use Rattle.pp_lint.proofs.FindingLemmas.{FoundIn}
use Rattle.pp_lint.proofs.lint_text.size_of.Given as goal

abbrev pub invariant-loop-line : goal.invariant-loop-line
invariant-loop-line l = FoundIn l.deck l.lines

abbrev pub decreases-loop-line : goal.decreases-loop-line
decreases-loop-line l = length l.lines
