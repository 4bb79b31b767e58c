use Rattle.std.proofs.lemmas.List.{append-nil}
use Rattle.pp_text.proofs.PrintingLemmas.{◌▹◌}
use Rattle.pp_text.specs.TextWriter.{Prints}
use Rattle.pp_sessions.specs.SessionsText.{idle_line, session_line, tally_line}
use Rattle.pp_sessions.proofs.open_stretch.print_stretch.Goals as goal
use Rattle.pp_sessions.proofs.open_stretch.print_stretch.Goals.{then-stretch, else-stretch}

pub returns-then-with_words : goal.returns-then-with_words
unfolding session_line idle_line
returns-then-with_words g c =
    let line : Prints g.W.Write.contents c.args.text.now c.if-stretch.text (tally_line c.args.c c.args.number c.args.stretch.now) = elim c.if-stretch.branch [
      | then-stretch w ↦ rw (w.text-is, w.if-stretch.true) w.print_session.ensures
      | else-stretch w ↦ rw (w.text-is, w.if-stretch.false) w.print_idle.ensures
    ] in
    rw c.if-with_words.true (line ▹ c.print_words.ensures)

pub returns-else-with_words : goal.returns-else-with_words
unfolding session_line idle_line
returns-else-with_words g c =
    let line : Prints g.W.Write.contents c.args.text.now c.if-stretch.text (tally_line c.args.c c.args.number c.args.stretch.now) = elim c.if-stretch.branch [
      | then-stretch w ↦ rw (w.text-is, w.if-stretch.true) w.print_session.ensures
      | else-stretch w ↦ rw (w.text-is, w.if-stretch.false) w.print_idle.ensures
    ] in
    rw (c.if-with_words.false, append-nil) line
