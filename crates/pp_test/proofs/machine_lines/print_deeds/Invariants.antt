use Rattle.std.proofs.Common.{take}
use Rattle.std.specs.List.{flat_map}
use Rattle.pp_text.specs.TextWriter.{Prints}
use Rattle.pp_test.specs.RunLines.{deed_line}
use Rattle.pp_test.proofs.machine_lines.print_deeds.Given as goal

abbrev pub invariant-loop-entry : goal.invariant-loop-entry
invariant-loop-entry g l = Prints g.W.Write.contents l.fn.text l.text (flat_map deed_line (take l.entry-index l.events))
