use Rattle.std.proofs.Common.{arith, subst}
use Rattle.pp_text.proofs.PrintingLemmas.{prints_on}
use Rattle.pp_text.specs.TextWriter.{Prints}
use Rattle.pp_text.proofs.OctalLemmas.{short_first, short_more}
use Rattle.pp_text.proofs.numbers.+print_short_octal.Goals as goal
use Rattle.pp_text.proofs.numbers.+print_short_octal.Goals.{then-n-ge8, else-n-ge8}

pub returns : goal.returns
returns g t c = elim c.if-n-ge8.branch [
  | then-n-ge8 w ↦ prints_on _ _ _ _ _ _ _ (rw w.text-is w.print_short_octal.ensures) c.print.ensures (short_more c.args.most c.args.n c.requires.some (omega (arith, w.if-n-ge8.true)))
  | else-n-ge8 w ↦ subst (Prints _ _ _) (short_first c.args.most c.args.n c.requires.some (omega (arith, w.if-n-ge8.false))) (rw w.text-is at c.print.ensures)
]
