use Rattle.std.proofs.Common.{◌≡◌, arith}
use Rattle.pp_text.proofs.PrintingLemmas.{each_below_suc, each_below_zero, prints_nothing, prints_on}
use Rattle.pp_text.proofs.lines.print_each_below.Goals as goal

pub loop-number-init : goal.loop-number-init
loop-number-init g c = rw (each_below_zero _) (prints_nothing _ _)

pub loop-number-preserved : goal.loop-number-preserved
loop-number-preserved g c =
    prints_on _ _ _ _ _ _ _ c.loop-number.invariant c.print.ensures.text (each_below_suc c.loop-number.number-counter _)

pub returns : goal.returns
returns g c = let all : c.loop-number.number-counter ≡ c.args.count = omega arith in rw all at c.loop-number.invariant
