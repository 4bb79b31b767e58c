use Rattle.std.proofs.Common.{◌-◌, ◌≤◌, ◌≡◌}
use Rattle.pp_machine.specs.MachineState.{MachineState}
use Rattle.pp_machine.specs.Quiet.{IsAhead}
use Rattle.pp_machine.proofs.quiet.run_quiet_steps.Given as goal

abbrev pub invariant-loop-made : goal.invariant-loop-made
invariant-loop-made g l = record {
  within : l.made ≤ l.most;
  ahead : (m : MachineState) → m.histories ≡ l.channels.items → IsAhead l.made m l.fn.pp l.pp;
}

abbrev pub decreases-loop-made : goal.decreases-loop-made
decreases-loop-made g l = l.most - l.made
