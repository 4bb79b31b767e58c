use Rattle.std.proofs.Common.{◌≡◌, ℕ, ◌<◌, ◌≤◌, ◌++◌, List, [], length, get_or, take}
use Rattle.std.specs.List.{flat_map, fold}
use Rattle.pp_channel.specs.declared.event.Event.{Event}
use Rattle.pp_numbers.specs.ChannelNo.{channel_count}
use Rattle.pp_line.specs.Merge.{IsRecordedBy, with_entry}
use Rattle.pp_line.proofs.recorded_history.recorded_channels.Given as goal

abbrev pub invariant-loop-other : goal.invariant-loop-other
invariant-loop-other g l = record {
  each : length l.histories.items ≡ channel_count;
  filled : l.histories.items ≡ fold with_entry l.initial.histories.items (flat_map (λ other. other.1.items) (take l.other-index l.others));
}

abbrev pub invariant-loop-place : goal.invariant-loop-place
invariant-loop-place g l = record {
  each : length l.channels ≡ channel_count;
  each_history : length l.histories.items ≡ channel_count;
  done : (histories : List (List Event)) → IsRecordedBy (l.log ++ flat_map (λ other. other.1.items) l.others) l.seen histories → (k : ℕ) → k < l.place → get_or l.channels k [] ≡ get_or histories k [];
  left : (histories : List (List Event)) → IsRecordedBy (l.log ++ flat_map (λ other. other.1.items) l.others) l.seen histories → (k : ℕ) → l.place ≤ k → get_or l.histories.items k [] ≡ get_or histories k [];
}
