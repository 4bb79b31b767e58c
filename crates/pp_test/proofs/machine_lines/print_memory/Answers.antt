use Rattle.std.proofs.Common.{◌≡◌, arith}
use Rattle.pp_text.proofs.PrintingLemmas.{each_below_suc, each_below_zero, prints_nothing, prints_on}
use Rattle.pp_test.specs.RunLines.{place_line}
use Rattle.pp_test.proofs.machine_lines.print_memory.Goals as goal

pub loop-place-init : goal.loop-place-init
loop-place-init g c = rw (each_below_zero (place_line c.args.n c.args.pp.now)) (prints_nothing _ _)

pub loop-place-preserved : goal.loop-place-preserved
loop-place-preserved g c =
    let at : c.truncated.result ≡ c.loop-place.place = omega (arith, c.truncated.ensures, c.loop-place-test.true) in
    prints_on _ _ _ _ _ _ _ c.loop-place.invariant (rw at at c.print_place.ensures) (each_below_suc c.loop-place.place _)

pub returns : goal.returns
returns g c =
    let all : c.loop-place.place ≡ 0o10000 = omega (arith, c.loop-place.auto.place-end, c.loop-place-test.false) in
    rw all at c.loop-place.invariant
