use Rattle.std.proofs.Common.{◌+◌, List, ◌++◌, map}
use Rattle.std.specs.List.{range_with_len}
use Rattle.pp_lint.specs.FirstLines.{Shows}
use Rattle.pp_lint.specs.Given.{Note}
use Rattle.pp_lint.proofs.first_lines.FirstLines.note.Given as goal

abbrev pub invariant-loop-i : goal.invariant-loop-i
invariant-loop-i g l = (notes : List Note) → Shows l.initial.self notes
    → Shows l.self (notes ++ map (λ i. record { line = l.number; kind = l.row.kind; place = l.row.first + i }) (range_with_len 0 l.i))
