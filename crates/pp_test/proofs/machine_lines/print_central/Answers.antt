use Rattle.std.proofs.Common.{◌≡◌, ◌<◌, ◌∙◌, arith, length}
use Rattle.std.specs.Prelude.{slice_index}
use Rattle.std.proofs.lemmas.List.{get_or_default}
use Rattle.pp_text.proofs.PrintingLemmas.{each_below_suc, each_below_zero, prints_nothing, prints_on}
use Rattle.pp_test.specs.RunLines.{central_line}
use Rattle.pp_test.proofs.machine_lines.print_central.Goals as goal

pub loop-address-init : goal.loop-address-init
loop-address-init g c = rw (each_below_zero (central_line c.args.central.now)) (prints_nothing _ _)

pub loop-address-preserved : goal.loop-address-preserved
loop-address-preserved g c =
    let central = c.args.central.now in
    let a = c.loop-address.address in
    let low : a < length central = omega (arith, c.loop-address-test.true, c.size-address-end.ensures.value) in
    let word : c.get.result ≡ slice_index central a = c.get.ensures.value ∙ (rw c.words.ensures.value at c.index-words-address.is) ∙ get_or_default central a _ 0 low in
    prints_on _ _ _ _ _ _ _ c.loop-address.invariant (rw word at c.print_central_line.ensures) (each_below_suc a _)

pub returns : goal.returns
returns g c =
    let all : c.loop-address.address ≡ length c.args.central.now = omega (arith, c.loop-address.auto.address-end, c.loop-address-test.false, c.size-address-end.ensures) in
    rw all at c.loop-address.invariant
