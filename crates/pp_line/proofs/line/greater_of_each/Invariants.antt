use Rattle.std.proofs.Common.{◌≡◌, ℕ, ◌<◌, ◌≤◌, length, max, get_or}
use Rattle.pp_numbers.specs.ChannelNo.{channel_count}
use Rattle.pp_line.proofs.line.greater_of_each.Given as goal

abbrev pub invariant-loop-place : goal.invariant-loop-place
invariant-loop-place l = record {
  each : length l.greater ≡ channel_count;
  done : (k : ℕ) → k < l.place → get_or l.greater k 0 ≡ max (get_or l.one k 0) (get_or l.other k 0);
  rest : (k : ℕ) → l.place ≤ k → get_or l.greater k 0 ≡ get_or l.one k 0;
}
