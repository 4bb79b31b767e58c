use Rattle.std.proofs.Common.{◌≡◌, cond, codes, eqb, arith}
use Rattle.std.proofs.lemmas.Bool.{ne_eqb}
use Rattle.std.proofs.lemmas.List.{append-nil}
use Rattle.pp_text.proofs.PrintingLemmas.{◌▹◌}
use Rattle.pp_sessions.proofs.words.print_word.Goals as goal
use Rattle.pp_sessions.proofs.words.print_word.Goals.{then-count-eq0, else-count-eq0}

pub returns-then-count : goal.returns-then-count
returns-then-count g c =
    let first : c.if-count-eq0.print.now ≡ codes " " = elim c.if-count-eq0.branch [
      | then-count-eq0 w ↦ absurd (omega (arith, w.if-count-eq0.true, c.if-count.true))
      | else-count-eq0 w ↦ rw w.print-is
    ] in
    rw c.if-count.true ((rw first at c.print.ensures) ▹ (rw (c.octal4.ensures, c.get.ensures.value) at c.print-2.ensures) ▹ c.print-then-count.ensures)

pub returns-else-count : goal.returns-else-count
returns-else-count g c =
    let first : c.if-count-eq0.print.now ≡ cond (eqb c.args.count 0) (codes "  ") (codes " ") = elim c.if-count-eq0.branch [
      | then-count-eq0 w ↦ rw (w.print-is, w.if-count-eq0.true)
      | else-count-eq0 w ↦ rw (w.print-is, ne_eqb c.args.count 0 w.if-count-eq0.false)
    ] in
    rw (ne_eqb c.args.count 7 c.if-count.false, append-nil) ((rw first at c.print.ensures) ▹ (rw (c.octal4.ensures, c.get.ensures.value) at c.print-2.ensures))
