use Rattle.std.proofs.Common.{◌≡◌, ◌≤◌, ◌++◌, length, take, replicate}
use Rattle.pp_line.specs.SharedWords.{place_count}
use Rattle.pp_line.proofs.shared_words.opening_words.Given as goal

abbrev pub invariant-loop-word : goal.invariant-loop-word
invariant-loop-word g l = record {
  items : l.words.items ≡ replicate place_count 0 ++ take l.word-index l.fn.central;
  within : l.word-index ≤ length l.fn.central;
}
