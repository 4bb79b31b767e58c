use Rattle.std.proofs.Common.{◌≡◌, take, length}
use Rattle.std.specs.List.{fold}
use Rattle.pp_numbers.specs.ChannelNo.{channel_count}
use Rattle.pp_line.specs.Merge.{with_entry}
use Rattle.pp_line.proofs.recorded_history.put_log.Given as goal

abbrev pub invariant-loop-entry : goal.invariant-loop-entry
invariant-loop-entry g l = record {
  each : length l.histories.items ≡ channel_count;
  filled : l.histories.items ≡ fold with_entry l.initial.histories.items (take l.entry-index l.log);
}
