use Rattle.std.proofs.Common.{◌≡◌, ◌≤◌, length}
use Rattle.pp_deck.specs.DeckText.{lines_of}
use Rattle.pp_check.proofs.FaultLemmas.{HasRead}
use Rattle.pp_check.proofs.check.check_trace.Given as goal

abbrev pub invariant-loop-line : goal.invariant-loop-line
invariant-loop-line l = record {
  passed : l.number ≡ length l.yielded;
  read : HasRead l.opened (lines_of l.text) l.number l.judge;
  events : l.judge.events ≤ l.number;
}
