use Rattle.std.proofs.lemmas.Bool.{ne_eqb}
use Rattle.pp_text.proofs.PrintingLemmas.{◌▹◌}
use Rattle.pp_test.proofs.verdict.print_last_words.Goals as goal

pub returns-else-failed-eq0 : goal.returns-else-failed-eq0
returns-else-failed-eq0 g c =
    rw (ne_eqb c.args.count 0 c.if-count-eq0.false, ne_eqb c.args.failed 0 c.if-failed-eq0.false)
    (c.print-else-failed-eq0.ensures ▹ c.print_short_decimal-else-failed-eq0.ensures ▹ c.print-else-failed-eq0-2.ensures ▹ c.print_short_decimal-else-failed-eq0-2.ensures)
