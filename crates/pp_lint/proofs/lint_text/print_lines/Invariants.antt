use Rattle.std.proofs.Common.{◌≡◌, ◌≤◌, drop, length, map}
use Rattle.std.specs.List.{flat_map, range_with_len, slice_split}
use Rattle.pp_deck.specs.DeckText.{fields_of, is_line_feed}
use Rattle.pp_text.specs.TextWriter.{Prints}
use Rattle.pp_lint.specs.Findings.{findings_at}
use Rattle.pp_lint.specs.LineFault.{before_line}
use Rattle.pp_lint.specs.LintText.{finding_line, is_something_found}
use Rattle.pp_lint.specs.StraightLine.{reached_at}
use Rattle.pp_lint.proofs.lint_text.print_lines.Given as goal

abbrev pub invariant-loop-line : goal.invariant-loop-line
invariant-loop-line g l = let lines = slice_split is_line_feed l.deck in record {
  most : l.number ≤ length lines;
  left : l.lines ≡ drop l.number lines;
  before : l.before ≡ before_line l.fn.profile (map fields_of lines) l.number;
  reached : l.reached ≡ reached_at l.fn.profile (map fields_of lines) l.number;
  printed : Prints g.W.Write.contents l.fn.text l.text (flat_map finding_line (flat_map (findings_at l.fn.profile lines l.whole.alone.items) (range_with_len 0 l.number)));
  found : l.is_found ≡ is_something_found (flat_map (findings_at l.fn.profile lines l.whole.alone.items) (range_with_len 0 l.number));
}

abbrev pub decreases-loop-line : goal.decreases-loop-line
decreases-loop-line g l = length l.lines
