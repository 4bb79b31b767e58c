use Rattle.std.proofs.Common.{◌≡◌, ℕ, ◌<◌, [], length, get_or, vec_capacity}
use Rattle.pp_numbers.specs.ChannelNo.{channel_count}
use Rattle.pp_line.proofs.recorded_history.unrecorded_histories.Given as goal

abbrev pub invariant-loop-count : goal.invariant-loop-count
invariant-loop-count g l = record {
  each : length l.unplaced.items ≡ l.count-index;
  room : vec_capacity l.unplaced ≡ channel_count;
  events : (p : ℕ) → p < l.count-index → length (get_or l.unplaced.items p []) ≡ get_or l.seen p 0;
}
