use Rattle.std.proofs.Common.{codes, arith}
use Rattle.pp_text.specs.InstructionText.{instruction_text}
use Rattle.pp_text.proofs.InstructionLemmas.{instruction_in_pieces, three_letters}
use Rattle.pp_text.proofs.instruction.instruction_field.Goals as goal
use Rattle.pp_text.proofs.instruction.instruction_field.Goals.{After-as_bytes-name}

pub bounds-name-0 : goal.bounds-name-0
bounds-name-0 c = grind (arith, goal.at.bounds-name-0, three_letters)

pub bounds-name-1 : goal.bounds-name-1
bounds-name-1 c = grind (arith, goal.at.bounds-name-1, three_letters)

pub bounds-name-2 : goal.bounds-name-2
bounds-name-2 c = grind (arith, goal.at.bounds-name-2, three_letters)

pub returns : goal.returns
unfolding instruction_text
returns c = grind (arith, instruction_in_pieces, codes)
