use Rattle.std.proofs.Common.{◌≡◌, ℕ, ◌<◌, false, get_or, length}
use Rattle.pp_numbers.specs.PpNo.{processor_count, processor_number}
use Rattle.pp_deck.specs.InUse.{is_in_use}
use Rattle.pp_deck.proofs.deck.Deck.in_use.Given as goal

abbrev pub invariant-loop-place : goal.invariant-loop-place
invariant-loop-place g l = record {
  each : length l.used ≡ processor_count;
  below : (k : ℕ) → k < l.place
      → get_or l.used k false ≡ is_in_use (record { machine = l.self.machine; named = l.self.named }) (processor_number k);
}
