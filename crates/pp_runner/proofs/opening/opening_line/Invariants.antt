use Rattle.std.proofs.Common.{◌≡◌, ◌+◌, ◌≤◌, []}
use Rattle.pp_numbers.specs.ChannelNo.{channel_count}
use Rattle.pp_line.specs.Merge.{IsOpeningLog}
use Rattle.pp_line.specs.LineLog.{IsWithin}
use Rattle.pp_runner.proofs.OpeningLemmas.{opened_before}
use Rattle.pp_runner.proofs.opening.opening_line.Given as goal

abbrev pub invariant-loop-place : goal.invariant-loop-place
invariant-loop-place g l = record {
  opened : IsOpeningLog (opened_before l.place l.machine) l.line.log.entries;
  within : IsWithin l.line.view.seen l.line.log.entries;
  room : channel_count ≤ l.line.log.room + l.place;
  shares : l.line.view.shares ≡ l.shares;
  whole : l.line.view.whole ≡ l.shares;
  no_write : l.line.view.written ≡ [];
  central : l.line.view.central ≡ l.machine.central;
}
