use Rattle.std.proofs.Common.{◌≡◌, ◌+◌, ◌-◌, ◌≤◌}
use Rattle.pp_machine.specs.Headline.{HoldsOnEachChannel}
use Rattle.pp_machine.specs.Rounds.{PassesOverRest}
use Rattle.pp_machine.specs.Run.{run, barrel}
use Rattle.pp_machine.proofs.machine.Machine.run_round.Given as goal

abbrev pub invariant-loop-self : goal.invariant-loop-self
invariant-loop-self g l = record {
  ran : l.self ≡ run (barrel l.fn.self.profile l.place) l.fn.self;
  within : l.place ≤ l.turns;
  passes : PassesOverRest l.next l.self.processors;
  headline : HoldsOnEachChannel l.self;
}

abbrev pub decreases-loop-self : goal.decreases-loop-self
decreases-loop-self g l = l.turns + 1 - l.place
