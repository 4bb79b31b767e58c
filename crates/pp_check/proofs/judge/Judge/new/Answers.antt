use Rattle.std.proofs.Common.{refl, arith}
use Rattle.pp_check.proofs.OpeningLemmas.{keeps_opening, none_opened}
use Rattle.pp_check.proofs.judge.Judge.new.Goals as goal

pub loop-place-init : goal.loop-place-init
loop-place-init c = record { each_channel = refl; opened = none_opened c.args.opened.now }

pub returns : goal.returns
returns c = keeps_opening c.loop-place.place c.args.opened.now c.loop-place.channels (omega (arith, c.loop-place-test.false)) c.loop-place.invariant.each_channel c.loop-place.invariant.opened
