use Rattle.pp_text.proofs.PrintingLemmas.{◌▹◌}
use Rattle.pp_ends.proofs.ends_text.print_ending.Goals as goal

pub returns-in-AtRest : goal.returns-in-AtRest
returns-in-AtRest g c = rw c.in-AtRest.is (c.print.ensures ▹ (rw c.from.ensures at c.print_decimal.ensures))

pub returns-in-Stuck : goal.returns-in-Stuck
returns-in-Stuck g c = rw c.in-Stuck.is (c.print-in-Stuck.ensures ▹ (rw c.from-in-Stuck.ensures at c.print_decimal-in-Stuck.ensures))

pub returns-in-Repeats : goal.returns-in-Repeats
returns-in-Repeats g c =
    rw c.in-Repeats.is
    (c.print-in-Repeats.ensures ▹ (rw c.from-in-Repeats.ensures at c.print_decimal-in-Repeats.ensures) ▹ c.print-in-Repeats-2.ensures
    ▹ (rw c.from-in-Repeats-2.ensures at c.print_short_decimal.ensures))

pub returns-in-GoingOn : goal.returns-in-GoingOn
returns-in-GoingOn g c = rw c.in-GoingOn.is (c.print-in-GoingOn.ensures ▹ (rw c.from-in-GoingOn.ensures at c.print_decimal-in-GoingOn.ensures))
