use Rattle.std.proofs.Common.{◌≡◌, take}
use Rattle.pp_machine.specs.Headline.{HoldsOnEachChannel}
use Rattle.pp_machine.specs.Run.{run}
use Rattle.pp_machine.proofs.machine.Machine.run_turns.Given as goal

abbrev pub invariant-loop-i : goal.invariant-loop-i
invariant-loop-i g l = record {
  ran : l.self ≡ run (take l.i l.turns) l.fn.self;
  headline : HoldsOnEachChannel l.self;
}
