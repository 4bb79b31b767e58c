use Rattle.pp_text.specs.TextWriter.{Prints}
use Rattle.pp_text.specs.PrintedText.{each_below}
use Rattle.pp_text.proofs.lines.print_each_below.Given as goal

abbrev pub invariant-loop-number : goal.invariant-loop-number
invariant-loop-number g l = Prints g.W.Write.contents l.fn.text l.text (each_below l.number-counter (g.L.Lines.text_of l.lines))
