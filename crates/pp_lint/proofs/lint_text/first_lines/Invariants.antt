use Rattle.std.proofs.Common.{◌≡◌, ◌≤◌, drop, length, map}
use Rattle.std.specs.List.{flat_map, range_with_len, slice_split}
use Rattle.pp_deck.specs.DeckText.{fields_of, is_line_feed}
use Rattle.pp_lint.specs.FirstLines.{Shows}
use Rattle.pp_lint.specs.Given.{notes_at}
use Rattle.pp_lint.specs.LineFault.{before_line}
use Rattle.pp_lint.proofs.lint_text.first_lines.Given as goal

abbrev pub invariant-loop-line : goal.invariant-loop-line
invariant-loop-line g l = let lines = slice_split is_line_feed l.deck in record {
  most : l.number ≤ length lines;
  left : l.lines ≡ drop l.number lines;
  before : l.before ≡ before_line l.fn.profile (map fields_of lines) l.number;
  shows : Shows l.firsts (flat_map (notes_at l.fn.profile (map fields_of lines)) (range_with_len 0 l.number));
}

abbrev pub decreases-loop-line : goal.decreases-loop-line
decreases-loop-line g l = length l.lines
