use Rattle.std.proofs.Common.{arith}
use Rattle.std.proofs.lemmas.List.{append-nil}
use Rattle.pp_text.proofs.WriteLemmas.{flushed}
use Rattle.pp_text.proofs.text_writer.TextWriter.finish.Goals as goal

pub returns-then-self-clause-written : goal.returns-then-self-clause-written
returns-then-self-clause-written g c = λ start text had. rw append-nil at ((c.write_piece.ensures.nothing_more.goes_on start text had).front c.if-self.true)

pub returns-clause-written : goal.returns-clause-written
returns-clause-written g c = grind (arith, append-nil, flushed)
