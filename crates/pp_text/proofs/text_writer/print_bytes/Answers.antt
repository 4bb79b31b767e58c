use Rattle.std.proofs.Common.{take-append-drop}
use Rattle.pp_text.proofs.PrintingLemmas.{prints_on}
use Rattle.pp_text.proofs.text_writer.print_bytes.Goals as goal

pub loop-rest-preserved : goal.loop-rest-preserved
loop-rest-preserved g c = λ out printed. c.loop-rest.invariant out
    (prints_on _ _ _ _ _ _ _ c.print.ensures printed (rw (c.split_at.ensures.front, c.split_at.ensures.back) (take-append-drop 8192 c.loop-rest.rest.now)))

pub returns : goal.returns
returns g c = c.loop-rest.invariant c.print-2.new.self c.print-2.ensures
