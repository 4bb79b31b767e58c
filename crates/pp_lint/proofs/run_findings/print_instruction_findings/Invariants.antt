use Rattle.std.proofs.Common.{◌≡◌, ℕ, ◌+◌, List, [], length}
use Rattle.std.specs.Prelude.{◌||◌}
use Rattle.std.specs.List.{flat_map}
use Rattle.pp_text.specs.TextWriter.{Prints}
use Rattle.pp_text.specs.declared.text_writer.TextWriter.{TextWriter}
use Rattle.pp_instructions.specs.declared.instruction.Instruction.{Instruction}
use Rattle.pp_lint.specs.FirstLines.{Shows}
use Rattle.pp_lint.specs.Given.{Note}
use Rattle.pp_lint.specs.LintText.{finding_line, is_something_found}
use Rattle.pp_lint.specs.RunFindings.{instruction_findings}
use Rattle.pp_lint.specs.SeenChannels.{ShowsChannels}
use Rattle.pp_lint.proofs.run_findings.print_instruction_findings.Given as goal

abbrev pub invariant-loop-i : goal.invariant-loop-i
invariant-loop-i g l = record {
  columns : l.columns ≡ l.words.line.now;
  before : List Instruction;
  seen : ShowsChannels l.words.profile l.seen before;
  printed : (k : ℕ) (notes : List Note) → Shows l.deck.firsts notes → l.words.number ≡ k + 1 → (out : TextWriter _)
      → Prints g.W.Write.contents l.text out (flat_map finding_line (instruction_findings l.words.profile k l.words.line.now notes l.deck.alone.items l.words.n l.words.first l.reached before l.instructions))
      → Prints g.W.Write.contents l.fn.text out (flat_map finding_line (instruction_findings l.words.profile k l.words.line.now notes l.deck.alone.items l.words.n l.words.first l.fn.reached [] l.fn.instructions));
  found : (k : ℕ) (notes : List Note) → Shows l.deck.firsts notes → l.words.number ≡ k + 1
      → (l.is_found || is_something_found (instruction_findings l.words.profile k l.words.line.now notes l.deck.alone.items l.words.n l.words.first l.reached before l.instructions))
      ≡ is_something_found (instruction_findings l.words.profile k l.words.line.now notes l.deck.alone.items l.words.n l.words.first l.fn.reached [] l.fn.instructions);
}

abbrev pub decreases-loop-i : goal.decreases-loop-i
decreases-loop-i g l = length l.instructions
