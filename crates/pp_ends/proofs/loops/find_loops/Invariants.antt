use Rattle.std.proofs.Common.{◌≡◌, ◌≤◌, length}
use Rattle.pp_run.specs.BareMachine.{StandsFor}
use Rattle.pp_numbers.specs.PpNo.{processor_count}
use Rattle.pp_ends.specs.Ending.{after_turns}
use Rattle.pp_ends.specs.Loops.{TellLoops}
use Rattle.pp_ends.proofs.loops.find_loops.Given as goal

abbrev pub invariant-loop-turn : goal.invariant-loop-turn
invariant-loop-turn g l = record {
  ran : StandsFor l.bare (after_turns l.turn l.machine);
  on : l.from ≤ l.turn;
  places : length l.loops ≡ processor_count;
  loops : TellLoops l.loops l.from l.turn l.machine;
}
