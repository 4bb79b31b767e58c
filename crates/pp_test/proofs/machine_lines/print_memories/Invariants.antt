use Rattle.std.specs.List.{flat_map}
use Rattle.pp_numbers.specs.Tables.{tabulate}
use Rattle.pp_numbers.specs.PpNo.{processor_number}
use Rattle.pp_text.specs.TextWriter.{Prints}
use Rattle.pp_test.specs.RunLines.{place_lines}
use Rattle.pp_test.proofs.machine_lines.print_memories.Given as goal

abbrev pub invariant-loop-place : goal.invariant-loop-place
invariant-loop-place g l = Prints g.W.Write.contents l.fn.text l.text (flat_map (place_lines l.shown l.machine) (tabulate l.place processor_number))
