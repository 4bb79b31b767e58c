use Rattle.std.proofs.Common.{sym, ◌∙◌}
use Rattle.pp_text.proofs.PrintingLemmas.{◌▹◌, prints_nothing}
use Rattle.pp_lint.proofs.comment_findings.print_claim.Goals as goal

pub returns-then-not-is_empty : goal.returns-then-not-is_empty
returns-then-not-is_empty g c = rw (sym c.is_empty.ensures ∙ c.if-not-is_empty.true) (c.print_bytes.ensures ▹ (c.print.ensures ▹ c.print_bytes-then-not-is_empty.ensures))

pub returns-else-not-is_empty : goal.returns-else-not-is_empty
returns-else-not-is_empty g c = rw (sym c.is_empty.ensures ∙ c.if-not-is_empty.false) (c.print_bytes.ensures ▹ prints_nothing _ _)
