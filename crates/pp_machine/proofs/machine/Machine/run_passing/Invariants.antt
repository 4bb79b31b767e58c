use Rattle.std.proofs.Common.{◌≡◌, ◌*◌}
use Rattle.pp_machine.specs.Headline.{HoldsOnEachChannel}
use Rattle.pp_machine.specs.Rounds.{PassesOverRest}
use Rattle.pp_machine.specs.Run.{run, barrel}
use Rattle.pp_machine.proofs.machine.Machine.run_passing.Given as goal

abbrev pub invariant-loop-done : goal.invariant-loop-done
invariant-loop-done g l = record {
  ran : l.self ≡ run (barrel l.fn.self.profile (l.done * l.turns)) l.fn.self;
  passes : PassesOverRest l.next l.self.processors;
  headline : HoldsOnEachChannel l.self;
}
