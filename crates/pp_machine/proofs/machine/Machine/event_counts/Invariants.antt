use Rattle.std.proofs.Common.{◌≡◌, ℕ, ◌<◌, [], length, get_or}
use Rattle.pp_numbers.specs.ChannelNo.{channel_count}
use Rattle.pp_machine.proofs.machine.Machine.event_counts.Given as goal

abbrev pub invariant-loop-place : goal.invariant-loop-place
invariant-loop-place g l = record {
  long : length l.counts ≡ channel_count;
  each : (k : ℕ) → k < l.place → get_or l.counts k 0 ≡ length (get_or l.self.histories k []);
}
