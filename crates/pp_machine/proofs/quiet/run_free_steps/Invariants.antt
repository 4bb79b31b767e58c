use Rattle.std.proofs.Common.{◌≡◌, ◌-◌, ◌≤◌}
use Rattle.std.specs.Prelude.{None}
use Rattle.pp_machine.specs.MachineState.{MachineState}
use Rattle.pp_machine.specs.Quiet.{IsAhead}
use Rattle.pp_processor.specs.declared.pp_state.PpState.TheVariants.{Running}
use Rattle.pp_machine.proofs.quiet.run_free_steps.Given as goal

abbrev pub invariant-loop-left : goal.invariant-loop-left
invariant-loop-left g l = record {
  ahead : (m : MachineState) → m.histories ≡ l.channels.items → IsAhead (l.most - l.left) m l.fn.pp l.pp;
  within : l.left ≤ l.most;
  running : l.pp.state ≡ Running;
  free : l.pp.block ≡ None;
}

abbrev pub decreases-loop-left : goal.decreases-loop-left
decreases-loop-left g l = l.left
