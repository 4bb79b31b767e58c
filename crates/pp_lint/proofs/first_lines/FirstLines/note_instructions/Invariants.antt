use Rattle.std.proofs.Common.{◌≡◌, List, ◌++◌, length}
use Rattle.std.specs.List.{flat_map}
use Rattle.pp_lint.specs.FirstLines.{Shows}
use Rattle.pp_lint.specs.Given.{Note, notes_of_instruction}
use Rattle.pp_lint.proofs.first_lines.FirstLines.note_instructions.Given as goal

-- what the rest will add makes up for what has been added
abbrev pub invariant-loop-i : goal.invariant-loop-i
invariant-loop-i g l = (notes : List Note) → Shows l.initial.self notes → (noted : List Note)
    × (Shows l.self noted
    × (noted ++ flat_map (notes_of_instruction l.number l.profile l.n) l.instructions ≡ notes ++ flat_map (notes_of_instruction l.number l.profile l.n) l.fn.instructions))

abbrev pub decreases-loop-i : goal.decreases-loop-i
decreases-loop-i g l = length l.instructions
