use Rattle.std.proofs.Common.{subst, arith}
use Rattle.std.proofs.lemmas.List.{take_all}
use Rattle.std.proofs.lemmas.List.Elements.{All-more}
use Rattle.pp_text.proofs.PrintingLemmas.{flat_taken, prints_on}
use Rattle.pp_text.proofs.lines.print_each.Goals as goal

pub loop-item-preserved : goal.loop-item-preserved
loop-item-preserved g c = record {
  text = prints_on _ _ _ _ _ _ _ c.loop-item.invariant.text c.print.ensures.text (flat_taken _ _ _ _ _ c.loop-item-test.true c.item-item.is);
  fits = All-more (g.L.Lines.Fits c.args.lines.now) _ _ c.item-item.result c.loop-item-test.true c.loop-item.invariant.fits (subst (g.L.Lines.Fits c.args.lines.now) c.item-item.is c.print.ensures.fits);
}

pub returns : goal.returns
returns g c = rw (take_all c.loop-item.item-index c.args.items.now (omega (arith, c.loop-item-test.false))) at c.loop-item.invariant
