use Rattle.std.proofs.Common.{◌≡◌, ◌-◌, ◌≤◌}
use Rattle.pp_machine.specs.Headline.{HoldsOnEachChannel}
use Rattle.pp_machine.specs.Rounds.{whole_rounds}
use Rattle.pp_machine.specs.Run.{run}
use Rattle.pp_machine.proofs.machine.Machine.run_by_turns.Given as goal

abbrev pub invariant-loop-done : goal.invariant-loop-done
invariant-loop-done g l = record {
  ran : l.self ≡ run (whole_rounds l.fn.self.profile l.done) l.fn.self;
  within : l.done ≤ l.rounds;
  headline : HoldsOnEachChannel l.self;
}

abbrev pub decreases-loop-done : goal.decreases-loop-done
decreases-loop-done g l = l.rounds - l.done
