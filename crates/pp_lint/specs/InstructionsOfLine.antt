-- The instructions of a line.
use Rattle.std.specs.Prelude.{ℕ, List, [], Option, Some}
use Rattle.pp_deck.specs.DeckLine.{Line, words}
use Rattle.pp_instructions.specs.Instruction.{instructions}
use Rattle.pp_instructions.specs.declared.instruction.Instruction.{Instruction}

-- those of a line of words
unfoldable pub instructions_of : Option Line → List Instruction
instructions_of (Some (words x ws)) = instructions x ws
instructions_of said = []

-- the place of its first word
unfoldable pub first_place : Option Line → ℕ
first_place (Some (words x ws)) = x
first_place said = 0
