use Rattle.std.proofs.Common.{◌≡◌, ◌+◌, length}
use Rattle.std.specs.Prelude.{bytes_eq}
use Rattle.std.specs.List.{common_prefix_len}
use Rattle.pp_deck.specs.DeckText.{fields_of}
use Rattle.pp_test.specs.Nearest.{in_common}
use Rattle.pp_test.proofs.nearest.in_common.Given as goal

abbrev pub invariant-loop-word : goal.invariant-loop-word
invariant-loop-word l = record {
  counted : l.count + common_prefix_len bytes_eq l.expected l.found ≡ in_common (fields_of l.words) l.line;
  left : l.count + length l.expected ≡ length (fields_of l.words);
}

abbrev pub decreases-loop-word : goal.decreases-loop-word
decreases-loop-word l = length l.expected
