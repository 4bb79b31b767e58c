use Rattle.std.proofs.Common.{length}
use Rattle.pp_text.specs.TextWriter.{Prints}
use Rattle.pp_text.specs.declared.text_writer.TextWriter.{TextWriter}
use Rattle.pp_text.proofs.text_writer.print_bytes.Given as goal

abbrev pub invariant-loop-rest : goal.invariant-loop-rest
invariant-loop-rest g l = (out : TextWriter _) → Prints g.W.Write.contents l.text out l.rest → Prints g.W.Write.contents l.fn.text out l.bytes

abbrev pub decreases-loop-rest : goal.decreases-loop-rest
decreases-loop-rest g l = length l.rest
