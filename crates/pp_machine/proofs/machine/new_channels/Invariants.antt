use Rattle.std.proofs.Common.{◌≡◌, ◌<◌, ℕ, [], replicate, get_or, vec_capacity}
use Rattle.pp_numbers.specs.ChannelNo.{channel_count}
use Rattle.pp_machine.specs.Headline.{HoldsOnChannel}
use Rattle.pp_machine.proofs.machine.new_channels.Given as goal

abbrev pub invariant-loop : goal.invariant-loop
invariant-loop g l = record {
  without_history : l.channels.items ≡ replicate l.counter [];
  room : vec_capacity l.channels ≡ channel_count;
  headline : (k : ℕ) → k < l.counter → HoldsOnChannel [] [] (get_or l.channels.items k []);
}
