use Rattle.std.proofs.Common.{◌≡◌, length}
use Rattle.pp_numbers.specs.ChannelNo.{channel_count}
use Rattle.pp_check.proofs.OpeningLemmas.{AreOpenedTo}
use Rattle.pp_check.proofs.judge.Judge.new.Given as goal

abbrev pub invariant-loop-place : goal.invariant-loop-place
invariant-loop-place l = record {
  each_channel : length l.channels ≡ channel_count;
  opened : AreOpenedTo l.place l.opened l.channels;
}
