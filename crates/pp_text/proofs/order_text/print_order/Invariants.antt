use Rattle.std.proofs.Common.{ℕ, List, length, ◌-◌}
use Rattle.pp_text.specs.TextWriter.{Prints}
use Rattle.pp_text.proofs.OrderTextLemmas.{IsPrintedTo}
use Rattle.pp_text.proofs.order_text.print_order.Given as goal

abbrev pub invariant-loop-place : goal.invariant-loop-place
invariant-loop-place g l =
    (printed : List ℕ) × Prints g.W.Write.contents l.fn.text l.text printed × IsPrintedTo l.order printed l.place

abbrev pub decreases-loop-place : goal.decreases-loop-place
decreases-loop-place g l = length l.order - l.place
