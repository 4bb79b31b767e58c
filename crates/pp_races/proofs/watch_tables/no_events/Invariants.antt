use Rattle.std.proofs.Common.{◌≡◌, ℕ, [], length, get_or}
use Rattle.pp_races.proofs.watch_tables.no_events.Given as goal

abbrev pub invariant-loop-count : goal.invariant-loop-count
invariant-loop-count g l = record {
  as_many : length l.table.items ≡ l.count-index;
  empty : (k : ℕ) → get_or l.table.items k [] ≡ [];
}
