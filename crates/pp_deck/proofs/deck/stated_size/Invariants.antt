use Rattle.std.proofs.Common.{◌≡◌, length}
use Rattle.std.specs.Prelude.{find}
use Rattle.pp_deck.specs.DeckText.{lines_of}
use Rattle.pp_deck.specs.DeckMeaning.{has_fields}
use Rattle.pp_deck.proofs.deck.stated_size.Given as goal

abbrev pub invariant-loop-fields : goal.invariant-loop-fields
invariant-loop-fields l = find has_fields l.lines ≡ find has_fields (lines_of l.text)

abbrev pub decreases-loop-fields : goal.decreases-loop-fields
decreases-loop-fields l = length l.lines
