use Rattle.std.proofs.Common.{rules, refl}
use Rattle.pp_text.proofs.TextWriterLemmas.{prints_lost, prints_sent}
use Rattle.pp_text.proofs.text_writer.TextWriter.write_piece.Goals as goal
use Rattle.pp_text.proofs.text_writer.TextWriter.write_piece.Goals.{then-not-self, else-not-self}

pub returns-clause-nothing_more : goal.returns-clause-nothing_more
returns-clause-nothing_more g c = elim c.if-not-self.branch [
  | then-not-self w ↦ rw (w.self-inside-is, ← c.self.view_is) (prints_sent _ _ _ w.write_bytes.result (search rules) refl w.is_err-self-inside.ensures.value refl w.write_bytes.ensures)
  | else-not-self w ↦ rw (w.self-inside-is, ← c.self.view_is) (prints_lost _ _ _ w.if-not-self.false w.if-not-self.false refl)
]
