use Rattle.std.proofs.Common.{refl}
use Rattle.std.specs.Prelude.{codes}
use Rattle.pp_text.proofs.PrintingLemmas.{◌▹◌}
use Rattle.pp_lint.specs.StraightLine.{fault_text}
use Rattle.pp_lint.proofs.FindingLemmas.{prints_ended, prints_finding}
use Rattle.pp_lint.proofs.straight_line.print_fault_finding.Goals as goal

pub returns : goal.returns
unfolding fault_text
returns g c = record {
  same = c.column_of-column.ensures.same;
  prints = λ k number. rw (c.if-not-is_reached.false, ← c.in-Some.ensures) (prints_finding _ _ _ _ _ refl
      (prints_ended (codes " wherever it is run") (rw (number, c.column_of-column.ensures.value, c.field_of.ensures) at c.print_place.ensures) (c.print.ensures ▹ c.print-2.ensures ▹ (rw c.from.ensures at c.print_short_decimal.ensures)) c.print-3.ensures));
  found = λ k. rw (c.if-not-is_reached.false, ← c.in-Some.ensures) refl;
}
