use Rattle.std.proofs.Common.{sym, subst}
use Rattle.std.proofs.lemmas.Bool.{cond-false, cond-true, eq-eqb, ne_eqb}
use Rattle.pp_text.specs.TextWriter.{Prints}
use Rattle.pp_text.proofs.PrintingLemmas.{◌▹◌, prints_nothing, prints_on}
use Rattle.pp_text.proofs.held_text.print_held_text.Goals as goal

pub returns-then-count-ne0 : goal.returns-then-count-ne0
returns-then-count-ne0 g c =
    c.print.ensures ▹ (rw c.channel_name.ensures at c.print-2.ensures) ▹ c.print-3.ensures ▹ c.print_flags_text.ensures
    ▹ prints_on _ _ _ _ _ _ _ c.print-then-count-ne0.ensures (rw c.from.ensures at c.print_unpadded.ensures) (sym (cond-false _ _ _ (ne_eqb c.args.count 0 c.if-count-ne0.true)))

pub returns-else-count-ne0 : goal.returns-else-count-ne0
returns-else-count-ne0 g c =
    c.print.ensures ▹ (rw c.channel_name.ensures at c.print-2.ensures) ▹ c.print-3.ensures ▹ c.print_flags_text.ensures
    ▹ subst (Prints _ _ _) (sym (cond-true _ _ _ (eq-eqb c.args.count 0 c.if-count-ne0.false))) (prints_nothing _ _)
