use Rattle.std.proofs.Common.{◌≡◌, ℕ, ◌+◌, length}
use Rattle.std.specs.Prelude.{◌||◌}
use Rattle.std.specs.List.{flat_map}
use Rattle.pp_deck.specs.DeckText.{fields_of}
use Rattle.pp_text.specs.TextWriter.{Prints}
use Rattle.pp_text.specs.declared.text_writer.TextWriter.{TextWriter}
use Rattle.pp_instructions.specs.Claim.{claims}
use Rattle.pp_instructions.specs.Column.{column_of}
use Rattle.pp_lint.specs.CommentFindings.{claims_findings}
use Rattle.pp_lint.specs.LintText.{finding_line, is_something_found}
use Rattle.pp_lint.proofs.comment_findings.print_claims_findings.Given as goal

abbrev pub invariant-loop-said : goal.invariant-loop-said
invariant-loop-said g l = let column = λ (i : ℕ). l.fn.star + 1 + column_of l.comment i in record {
  columns : l.columns ≡ l.comment;
  printed : (k : ℕ) → l.fn.number ≡ k + 1 → (out : TextWriter _)
      → Prints g.W.Write.contents l.text out (flat_map finding_line (claims_findings k column l.claims l.instructions))
      → Prints g.W.Write.contents l.fn.text out (flat_map finding_line (claims_findings k column (claims 0 (fields_of l.comment)) l.fn.instructions));
  found : (k : ℕ) → (l.is_found || is_something_found (claims_findings k column l.claims l.instructions))
      ≡ is_something_found (claims_findings k column (claims 0 (fields_of l.comment)) l.fn.instructions);
}

abbrev pub decreases-loop-said : goal.decreases-loop-said
decreases-loop-said g l = length l.claims
