use Rattle.std.proofs.Common.{append_assoc}
use Rattle.pp_text.specs.PrintedText.{processor_line}
use Rattle.pp_text.specs.TextWriter.{Prints}
use Rattle.pp_text.proofs.PrintingLemmas.{◌▹◌, prints_nothing, prints_on}
use Rattle.pp_ends.specs.EndsText.{loop_text}
use Rattle.pp_ends.proofs.ends_text.LoopingLinesLinesPpNo.print.Goals.{in-Some, in_default}
use Rattle.pp_ends.proofs.ends_text.LoopingLinesLinesPpNo.print.Goals as goal

pub returns-clause-text : goal.returns-clause-text
unfolding processor_line
returns-clause-text g c =
    let loop : Prints g.W.Write.contents c.print_standing.new.text c.match-loop_of.text (loop_text c.loop_of.result.now) = elim c.match-loop_of.branch [
      | in-Some w ↦ rw (w.text-is, w.in-Some.is, ← w.loop_field.ensures) w.print-in-Some.ensures
      | in_default w ↦ rw (w.text-is, w.in_default.is) (prints_nothing _ _)
    ] in
    prints_on _ _ _ _ _ _ _ (c.print.ensures ▹ c.print_standing.ensures ▹ loop) c.print-2.ensures
    (rw (append_assoc c.processor_heading.result, c.processor_heading.ensures.text, c.pp.ensures, c.loop_of.ensures))
