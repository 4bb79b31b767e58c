use Rattle.pp_run.proofs.BareLemmas.{AreStatesBelow}
use Rattle.pp_run.proofs.bare_step.channel_states.Given as goal

abbrev pub invariant-loop-place : goal.invariant-loop-place
invariant-loop-place g l = AreStatesBelow l.place l.states l.machine.histories
