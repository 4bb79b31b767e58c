use Rattle.std.proofs.Common.{◌≡◌, ℕ, ◌<◌, false, length, get_or}
use Rattle.pp_numbers.specs.PpNo.{processor_count, processor_number}
use Rattle.pp_races.specs.Tables.{has_bit}
use Rattle.pp_races.proofs.sharing.flags_of.Given as goal

abbrev pub invariant-loop-place : goal.invariant-loop-place
invariant-loop-place l = record {
  long : length l.flags ≡ processor_count;
  each : (k : ℕ) → k < l.place → get_or l.flags k false ≡ has_bit l.mask (processor_number k);
}
