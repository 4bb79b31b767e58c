use Rattle.std.proofs.Common.{codes}
use Rattle.std.proofs.lemmas.Bool.{le-ltb, lt-ltb}
use Rattle.pp_word.specs.Numeral.{octal}
use Rattle.pp_text.proofs.PrintingLemmas.{prints_nothing}
use Rattle.pp_races.proofs.TextLemmas.{prints_parts}
use Rattle.pp_races.proofs.lines.print_name.Goals as goal
use Rattle.pp_races.proofs.lines.print_name.Goals.{then-named-gt0, else-named-gt0}

pub returns : goal.returns
returns g c = prints_parts _ _ _ _ _ (codes "PP") (octal 2 c.args.n)
    (elim c.if-named-gt0.branch [
      | then-named-gt0 w ↦ rw (w.text-is, lt-ltb 0 c.args.named w.if-named-gt0.true) w.print.ensures
      | else-named-gt0 w ↦ rw (w.text-is, le-ltb 0 c.args.named w.if-named-gt0.false) (prints_nothing _ _)
    ])
    (rw c.processor_name.ensures at c.print-2.ensures)
