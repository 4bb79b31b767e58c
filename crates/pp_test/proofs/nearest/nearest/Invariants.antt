use Rattle.std.proofs.Common.{◌≡◌, length}
use Rattle.std.specs.List.{best_of, slice_split}
use Rattle.pp_deck.specs.DeckText.{fields_of, is_line_feed}
use Rattle.pp_test.specs.Nearest.{in_common, is_nearer, nearest}
use Rattle.pp_test.proofs.nearest.nearest.Given as goal

abbrev pub invariant-loop-line : goal.invariant-loop-line
invariant-loop-line l = let words = fields_of l.words in record {
  left : best_of (is_nearer words) l.best l.lines ≡ nearest words (slice_split is_line_feed l.text);
  most : l.most ≡ in_common words l.best;
}

abbrev pub decreases-loop-line : goal.decreases-loop-line
decreases-loop-line l = length l.lines
