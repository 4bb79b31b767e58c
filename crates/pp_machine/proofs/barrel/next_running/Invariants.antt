use Rattle.std.proofs.Common.{◌≡◌, ◌+◌, length}
use Rattle.pp_numbers.specs.PpNo.{processor_count}
use Rattle.pp_machine.proofs.RoundLemmas.{PassesFrom}
use Rattle.pp_machine.proofs.barrel.next_running.Given as goal

abbrev pub invariant-loop-place : goal.invariant-loop-place
invariant-loop-place g l = record {
  long : length l.next ≡ processor_count + 1;
  so_far : PassesFrom l.next l.place l.running l.processors.items;
}
