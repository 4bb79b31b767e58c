use Rattle.std.proofs.Common.{◌≡◌, ℕ, ◌<◌, ◌≤◌, length, false, get_or}
use Rattle.std.specs.Prelude.{not}
use Rattle.pp_numbers.specs.PpNo.{processor_count}
use Rattle.pp_deck.proofs.reading.unnamed.Given as goal

abbrev pub invariant-loop-place : goal.invariant-loop-place
invariant-loop-place l = record {
  each : length l.unnamed ≡ processor_count;
  done : (k : ℕ) → k < l.place → get_or l.unnamed k false ≡ not (get_or l.named k false);
  left : (k : ℕ) → l.place ≤ k → get_or l.unnamed k false ≡ false;
}
