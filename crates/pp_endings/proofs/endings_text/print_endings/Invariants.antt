use Rattle.std.proofs.Common.{map}
use Rattle.pp_text.specs.PrintedText.{each_below}
use Rattle.pp_text.specs.TextWriter.{Prints}
use Rattle.pp_endings.specs.EndingsText.{ending_at}
use Rattle.pp_endings.proofs.endings_text.print_endings.Given as goal

abbrev pub invariant-loop-ending : goal.invariant-loop-ending
invariant-loop-ending g l = Prints g.W.Write.contents l.fn.text l.text (each_below l.ending-index
    (ending_at (record { machine = l.source.load.now.machine; named = l.source.load.now.named })
    (map (λ ending. ending.order.items) l.endings) (map (λ ending. ending.goes_on) l.endings)))
