use Rattle.pp_text.specs.PrintedText.{each_below}
use Rattle.pp_text.specs.TextWriter.{Prints}
use Rattle.pp_test.specs.RunLines.{place_line}
use Rattle.pp_test.proofs.machine_lines.print_memory.Given as goal

abbrev pub invariant-loop-place : goal.invariant-loop-place
invariant-loop-place g l = Prints g.W.Write.contents l.fn.text l.text (each_below l.place (place_line l.n l.pp))
