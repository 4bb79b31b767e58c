use Rattle.std.proofs.Common.{◌≡◌, ◌+◌, length}
use Rattle.pp_deck.specs.DeckText.{fields_of}
use Rattle.pp_test.proofs.nearest.word_count.Given as goal

abbrev pub invariant-loop-count : goal.invariant-loop-count
invariant-loop-count l = l.count + length l.fields ≡ length (fields_of l.words)

abbrev pub decreases-loop-count : goal.decreases-loop-count
decreases-loop-count l = length l.fields
