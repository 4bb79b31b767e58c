use Rattle.std.proofs.Common.{◌≤◌, ◌-◌, length}
use Rattle.pp_races.specs.ByFlags.{at}
use Rattle.pp_races.specs.Cursor.{NoneFinds}
use Rattle.pp_races.proofs.cursor.search.Given as goal

abbrev pub invariant-loop-place : goal.invariant-loop-place
invariant-loop-place l = record {
  further : l.from ≤ l.place;
  within : l.from ≤ length l.events → l.place ≤ length l.events;
  none : NoneFinds (at l.set) l.events l.from l.place;
}

abbrev pub decreases-loop-place : goal.decreases-loop-place
decreases-loop-place l = length l.events - l.place
