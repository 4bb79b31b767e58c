use Rattle.std.proofs.Common.{arith, rules}
use Rattle.pp_numbers.specs.ChannelNo.{channel_places}
use Rattle.pp_run.proofs.BareLemmas.{states_more}
use Rattle.pp_run.proofs.bare_step.channel_states.Goals as goal

pub loop-place-init : goal.loop-place-init
loop-place-init g c = λ k below. absurd (omega (arith, below))

pub loop-place-preserved : goal.loop-place-preserved
loop-place-preserved g c = grind (arith, states_more, rules)

pub returns : goal.returns
returns g c = λ n names. c.loop-place.invariant _ (omega (arith, channel_places.place_below n names))
