use Rattle.std.proofs.Common.{◌≡◌, take}
use Rattle.pp_machine.specs.Run.{run}
use Rattle.pp_run.specs.BareMachine.{StandsFor}
use Rattle.pp_steps.specs.Choice.{chosen_steps}
use Rattle.pp_steps.specs.HeldSpells.{each_spells}
use Rattle.pp_steps.proofs.spell_counts.counted_spells.Given as goal

abbrev pub invariant-loop-n : goal.invariant-loop-n
invariant-loop-n g l = record {
  stands : StandsFor l.bare (run (take l.n-index l.fn.order) l.fn.machine);
  counted : l.spells.items ≡ each_spells (chosen_steps l.fn.choice (take l.n-index l.fn.order) l.fn.machine);
}
