use Rattle.std.proofs.Common.{◌≡◌, ◌+◌, ◌-◌, vec_len, vec_capacity}
use Rattle.std.specs.Prelude.{All}
use Rattle.pp_numbers.specs.Profile.{processors_in}
use Rattle.pp_line.specs.LineState.{IsSplitFrom}
use Rattle.pp_runner.specs.Crew.{HasOpened}
use Rattle.pp_runner.proofs.threads.open_family.Given as goal

abbrev pub invariant-loop-count : goal.invariant-loop-count
invariant-loop-count g l = record {
  opened : HasOpened l.machine (processors_in l.machine.profile + 1) (processors_in l.machine.profile + 1 - l.count) l.first;
  fresh : All (IsSplitFrom l.first l.room) l.lines.items;
  made : vec_len l.lines ≡ l.count;
  room : vec_capacity l.lines ≡ l.processors;
}
