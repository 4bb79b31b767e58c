use Rattle.std.proofs.Common.{◌+◌}
use Rattle.pp_text.specs.PrintedText.{each_below}
use Rattle.pp_text.specs.TextWriter.{Prints}
use Rattle.pp_draw.specs.Frame.{tick_text}
use Rattle.pp_draw.proofs.frame.print_ticks.Given as goal

abbrev pub invariant-loop-i : goal.invariant-loop-i
invariant-loop-i g l = Prints g.W.Write.contents l.fn.text l.text (each_below l.i (λ i. tick_text l.fn.window l.rows (l.fn.window.from + i)))
