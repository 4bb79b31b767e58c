use Rattle.std.proofs.Common.{ℕ, List, eqb, length, arith, ap, ◌∙◌}
use Rattle.std.specs.Prelude.{take_while}
use Rattle.std.proofs.lemmas.List.{take_rest}
use Rattle.pp_text.proofs.OrderTextLemmas.{all_printed, with_comma, without}
use Rattle.pp_text.proofs.PrintingLemmas.{prints_then}
use Rattle.pp_text.proofs.order_text.print_order.Goals as goal

pub loop-place-preserved-then-place-order : goal.loop-place-preserved-then-place-order
loop-place-preserved-then-place-order g c =
    let (printed, prints, so_far) = c.loop-place.invariant in
    let n = c.index-order-place.result in (
      _,
      prints_then _ _ _ _ _ _ (prints_then _ _ _ _ _ _ prints c.print_row.ensures) c.print.ensures,
      with_comma _ printed c.loop-place.place n _ so_far (omega arith) c.index-order-place.is
          (c.in_a_row-count.ensures ∙ ap (λ (ns : List ℕ). length (take_while (λ k. eqb k n) ns)) (take_rest c.args.order.now c.loop-place.place)) (omega arith),
    )

pub loop-place-preserved : goal.loop-place-preserved
loop-place-preserved g c =
    let (printed, prints, so_far) = c.loop-place.invariant in
    let n = c.index-order-place.result in (
      _,
      prints_then _ _ _ _ _ _ prints c.print_row.ensures,
      without _ printed c.loop-place.place n _ so_far (omega arith) c.index-order-place.is
          (c.in_a_row-count.ensures ∙ ap (λ (ns : List ℕ). length (take_while (λ k. eqb k n) ns)) (take_rest c.args.order.now c.loop-place.place)) (omega arith),
    )

pub returns : goal.returns
returns g c = grind (arith, all_printed)
