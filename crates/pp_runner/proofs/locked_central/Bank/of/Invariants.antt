use Rattle.std.proofs.Common.{◌≡◌, ◌<◌, ◌+◌, ◌*◌, ℕ, length, slice_index}
use Rattle.pp_runner.proofs.locked_central.Bank.of.Given as goal

abbrev pub invariant-loop-place : goal.invariant-loop-place
invariant-loop-place g l = record {
  count : length l.words.items ≡ 4096;
  filled : (p : ℕ) → p < l.place → slice_index l.words.items p ≡ slice_index l.central (32 * p + l.bank);
}
