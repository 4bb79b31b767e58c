use Rattle.std.proofs.Common.{ℕ, arith, length-append, length-take}
use Rattle.std.proofs.lemmas.Grind.{common_steps}
use Rattle.pp_sim.proofs.ByteLemmas.{consumes_more}
use Rattle.pp_sim.proofs.streams.read_front.Goals as goal

pub returns-then-is_err-clause-limit : goal.returns-then-is_err-clause-limit
returns-then-is_err-clause-limit g c =
    let read = c.in-Ok.ensures.bytes in
    (_, consumes_more _ _ _ _ _ c.loop-buffer.invariant.consumed read.0, omega (arith, length-append {A = ℕ}, length-take {A = ℕ}, c.read.auto.buf, c.in-Ok.ensures.bound))

pub loop-buffer-preserved : goal.loop-buffer-preserved
loop-buffer-preserved g c = grind (arith, common_steps)
