use Rattle.std.proofs.Common.{◌≡◌, sym, ◌∙◌}
use Rattle.std.specs.Prelude.{◌||◌, bytes_eq, codes}
use Rattle.pp_lint.proofs.FindingLemmas.{after_some}
use Rattle.pp_lint.proofs.GivenLemmas.{section_after_is}
use Rattle.pp_lint.proofs.lint_text.after_line.Goals.{then-before, else-before}
use Rattle.pp_lint.proofs.lint_text.after_line.Goals as goal

pub returns-after-before : goal.returns-after-before
returns-after-before c =
    let fields = sym c.of-fields.ensures ∙ c.in-Some.ensures.taken in
    let inside : c.if-before.result ≡ (c.args.before.now.is_in_section || bytes_eq c.in-Some.first.now (codes "PP")) = elim c.if-before.branch [
      | then-before w ↦ rw w.if-before.true (w.result-is ∙ w.if-before.true)
      | else-before w ↦ rw w.if-before.false (w.result-is ∙ w.is.ensures)
    ] in
    after_some c.args.before.now _ c.in-Some.first.now _ c.if-before.result c.section_after.result fields inside
    (c.section_after.ensures ∙ section_after_is c.args.before.now _ c.in-Some.first.now _ c.is-in-Some.result fields c.is-in-Some.ensures)
