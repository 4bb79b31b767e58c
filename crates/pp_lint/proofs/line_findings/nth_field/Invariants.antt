use Rattle.std.proofs.Common.{◌≡◌, [], length}
use Rattle.std.specs.Prelude.{slice_index_or}
use Rattle.pp_deck.specs.DeckText.{fields_of}
use Rattle.pp_lint.proofs.line_findings.nth_field.Given as goal

abbrev pub invariant-loop-field : goal.invariant-loop-field
invariant-loop-field l = slice_index_or l.fields l.left [] ≡ slice_index_or (fields_of l.line) l.n []

abbrev pub decreases-loop-field : goal.decreases-loop-field
decreases-loop-field l = length l.fields
