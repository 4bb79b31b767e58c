use Rattle.pp_text.proofs.PrintingLemmas.{prints_nothing}
use Rattle.pp_text.proofs.TextWriterLemmas.{prints_held}
use Rattle.pp_text.proofs.text_writer.TextWriter.print.Goals as goal
use Rattle.pp_text.proofs.text_writer.TextWriter.print.Goals.{then-self-bytes, else-self-bytes}

pub returns : goal.returns
returns g c = elim c.if-self-bytes.branch [
  | then-self-bytes w ↦ prints_held _ _ (rw w.self-is w.write_piece.ensures.nothing_more) c.push.ensures
  | else-self-bytes w ↦ prints_held _ _ (rw w.self-is (prints_nothing _ _)) c.push.ensures
]
