use Rattle.pp_text.specs.PrintedText.{each_below}
use Rattle.pp_text.specs.TextWriter.{Prints}
use Rattle.pp_test.specs.RunLines.{central_line}
use Rattle.pp_test.proofs.machine_lines.print_central.Given as goal

abbrev pub invariant-loop-address : goal.invariant-loop-address
invariant-loop-address g l = Prints g.W.Write.contents l.fn.text l.text (each_below l.address (central_line l.central))
