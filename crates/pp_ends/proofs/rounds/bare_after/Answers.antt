use Rattle.std.proofs.Common.{◌≡◌, arith}
use Rattle.pp_ends.proofs.FoundLemmas.{after_none}
use Rattle.pp_ends.proofs.rounds.bare_after.Goals as goal

pub loop-done-init : goal.loop-done-init
loop-done-init g c = rw (after_none c.args.machine.now) c.in_ok-bare.ensures

pub loop-done-preserved : goal.loop-done-preserved
loop-done-preserved g c = grind arith

pub returns : goal.returns
returns g c = let all : c.loop-done.done ≡ c.args.rounds = omega (arith, c.loop-done.auto.done-end) in rw all at c.loop-done.invariant
