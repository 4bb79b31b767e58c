use Rattle.std.proofs.Common.{◌≡◌, codes}
use Rattle.std.specs.Prelude.{if◌then◌else◌}
use Rattle.pp_text.specs.TextWriter.{Prints}
use Rattle.pp_text.proofs.PrintingLemmas.{◌▹◌, prints_nothing}
use Rattle.pp_sessions.specs.SessionsText.{end_text, session_line, word_text}
use Rattle.pp_sessions.proofs.lines.print_session.Goals as goal
use Rattle.pp_sessions.proofs.lines.print_session.Goals.{then-has_ended, else-has_ended, in-Some, in_default, then-has_ended-2, else-has_ended-2}

pub returns : goal.returns
unfolding session_line
returns g c =
    let s = c.args.session.now in
    let end : Prints g.W.Write.contents c.print_moment.new.text c.if-has_ended.text (end_text s.has_ended s.to) = elim c.if-has_ended.branch [
      | then-has_ended w ↦ rw (w.text-is, w.if-has_ended.true) (w.print-then-has_ended.ensures ▹ w.print_moment-then-has_ended.ensures)
      | else-has_ended w ↦ rw (w.text-is, w.if-has_ended.false) w.print-else-has_ended.ensures
    ] in
    let word : Prints g.W.Write.contents c.print_short_decimal-3.new.text c.match-session.text (word_text s.has_ended s.untaken) = elim c.match-session.branch [
      | in-Some w ↦
          let first : w.if-has_ended-2.print.now ≡ (if s.has_ended then codes " LOST " else codes " WAITING ") = elim w.if-has_ended-2.branch [
            | then-has_ended-2 v ↦ rw (v.print-is, v.if-has_ended-2.true)
            | else-has_ended-2 v ↦ rw (v.print-is, v.if-has_ended-2.false)
          ] in
          rw (w.text-is, w.in-Some.is) ((rw first at w.print-in-Some.ensures) ▹ (rw (w.octal4.ensures, w.get.ensures.value) at w.print-in-Some-2.ensures))
      | in_default w ↦ rw (w.text-is, w.in_default.is) (prints_nothing _ _)
    ] in
    (rw c.channel_name.ensures at c.print.ensures) ▹ c.print-2.ensures ▹ c.print_short_decimal.ensures ▹ c.print-3.ensures ▹ c.print_moment.ensures ▹ end
    ▹ c.print-4.ensures ▹ c.print_short_decimal-2.ensures ▹ c.print-5.ensures ▹ c.print_short_decimal-3.ensures ▹ word ▹ c.print-6.ensures
