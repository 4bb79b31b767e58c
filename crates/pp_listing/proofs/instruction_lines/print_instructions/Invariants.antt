use Rattle.std.proofs.Common.{◌≡◌, ℕ, List, ◌++◌, length}
use Rattle.std.specs.List.{flat_map}
use Rattle.pp_text.specs.TextWriter.{Prints}
use Rattle.pp_listing.specs.ListedLine.{text_line}
use Rattle.pp_listing.specs.Listing.{instructions_listed}
use Rattle.pp_listing.proofs.instruction_lines.print_instructions.Given as goal

abbrev pub invariant-loop-i : goal.invariant-loop-i
invariant-loop-i g l = (printed : List ℕ) × Prints g.W.Write.contents l.fn.text l.text printed
    × (printed ++ flat_map text_line l.instructions ≡ flat_map text_line (instructions_listed l.pp))

abbrev pub decreases-loop-i : goal.decreases-loop-i
decreases-loop-i g l = length l.instructions
