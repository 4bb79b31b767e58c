use Rattle.std.proofs.Common.{◌≡◌}
use Rattle.std.specs.Prelude.{vec_len}
use Rattle.pp_numbers.specs.ChannelNo.{channel_count}
use Rattle.pp_machine.proofs.machine.reserve_each.Given as goal

abbrev pub invariant-loop-place : goal.invariant-loop-place
invariant-loop-place g l = record {
  items : l.channels.items ≡ l.initial.channels.items;
  all : vec_len l.channels ≡ channel_count;
}
