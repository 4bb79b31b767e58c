use Rattle.std.specs.List.{flat_map, range_with_len}
use Rattle.pp_text.specs.TextWriter.{Prints}
use Rattle.pp_steps.specs.StepLine.{place_text}
use Rattle.pp_steps.proofs.step_line.print_range.Given as goal

abbrev pub invariant-loop-i : goal.invariant-loop-i
invariant-loop-i g l = Prints g.W.Write.contents l.fn.text l.text (flat_map (place_text l.old.memory l.new.memory) (range_with_len l.first l.i))
