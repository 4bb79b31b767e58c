use Rattle.std.proofs.Common.{refl, sym, ◌∙◌}
use Rattle.pp_text.proofs.PrintingLemmas.{◌▹◌}
use Rattle.pp_lint.proofs.FindingLemmas.{prints_finding}
use Rattle.pp_lint.proofs.comment_findings.print_claim_finding.Goals as goal

pub returns : goal.returns
returns g c = record {
  same = c.column_of.ensures.same;
  prints = λ k number. rw (sym c.is_so_there.ensures ∙ c.if-is_so_there.false) (prints_finding _ _ _ _ _ refl
      ((rw (number, c.column_of.ensures.value) at c.print_place.ensures) ▹ c.print_against.ensures ▹ c.print.ensures));
  found = λ k. rw (sym c.is_so_there.ensures ∙ c.if-is_so_there.false) refl;
}
