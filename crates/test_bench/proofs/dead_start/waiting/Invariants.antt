use Rattle.std.proofs.Common.{◌≡◌, ℕ, ◌≤◌, false, get_or, length}
use Rattle.pp_numbers.specs.Profile.{processors_in}
use Rattle.pp_numbers.specs.PpNo.{processor_count}
use Rattle.test_bench.proofs.dead_start.waiting.Given as goal

abbrev pub invariant-loop-place : goal.invariant-loop-place
invariant-loop-place l = record {
  each : length l.waiting ≡ processor_count;
  end : l.place-end ≤ processors_in l.fn.profile;
  rest : (k : ℕ) → processors_in l.fn.profile ≤ k → get_or l.waiting k false ≡ false;
}
