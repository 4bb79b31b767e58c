use Rattle.std.proofs.Common.{◌≡◌, ◌≤◌, length, drop}
use Rattle.pp_deck.specs.DeckText.{lines_of}
use Rattle.pp_deck.proofs.ReadingLemmas.{ReadTo}
use Rattle.pp_deck.proofs.deck.deck_of_lines.Given as goal

abbrev pub invariant-loop-fields : goal.invariant-loop-fields
invariant-loop-fields g l = record {
  within : l.number ≤ length (lines_of l.text);
  left : l.lines ≡ drop l.number (lines_of l.text);
  read : ReadTo l.fn.profile (lines_of l.text) l.number l.reading l.is_after_fields;
}

abbrev pub decreases-loop-fields : goal.decreases-loop-fields
decreases-loop-fields g l = length l.lines
