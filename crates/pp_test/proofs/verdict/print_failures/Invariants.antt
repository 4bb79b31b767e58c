use Rattle.std.proofs.Common.{◌≡◌, ◌+◌, ◌≤◌, length}
use Rattle.std.specs.Prelude.{◌^◌}
use Rattle.std.specs.List.{flat_map}
use Rattle.pp_text.specs.TextWriter.{Prints}
use Rattle.pp_text.specs.declared.text_writer.TextWriter.{TextWriter}
use Rattle.pp_test.specs.Expectations.{expectations, expectations_from}
use Rattle.pp_test.specs.Verdict.{failure_text, failures, lines_in}
use Rattle.pp_test.proofs.VerdictLemmas.{characters}
use Rattle.pp_test.proofs.verdict.print_failures.Given as goal

abbrev pub invariant-loop-line : goal.invariant-loop-line
invariant-loop-line g l = let lines = lines_in l.lines in let rest = expectations_from (l.number + 1) l.left in record {
  printed : (out : TextWriter _) → Prints g.W.Write.contents l.text out (flat_map (failure_text lines) (failures lines rest))
      → Prints g.W.Write.contents l.fn.text out (flat_map (failure_text lines) (failures lines (expectations l.deck)));
  all : l.tally.all + length rest ≡ length (expectations l.deck);
  failed : l.tally.failed + length (failures lines rest) ≡ length (failures lines (expectations l.deck));
  fewer : l.tally.failed ≤ l.tally.all;
  few : l.tally.all ≤ l.number;
  numbers : l.number + length l.left ≤ 2 ^ 62 + 1;
  characters : characters l.left ≤ 2 ^ 62;
}

abbrev pub decreases-loop-line : goal.decreases-loop-line
decreases-loop-line g l = length l.left
