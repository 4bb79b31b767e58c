-- What is found in a line's instructions.
use Rattle.std.specs.Prelude.{ℕ, List, [], ◌∷◌, ◌++◌, Option}
use Rattle.pp_numbers.specs.declared.profile.Profile.{Profile}
use Rattle.pp_deck.specs.DeckLine.{Line}
use Rattle.pp_instructions.specs.declared.instruction.Instruction.{Instruction}
use Rattle.pp_lint.specs.ChannelUse.{alone_finding}
use Rattle.pp_lint.specs.Finding.{Finding}
use Rattle.pp_lint.specs.Given.{Note}
use Rattle.pp_lint.specs.InstructionsOfLine.{first_place, instructions_of}
use Rattle.pp_lint.specs.StraightLine.{behind, fault_finding, is_reached}
use Rattle.pp_lint.specs.declared.{channel_use.ChannelUse.ChannelUse, row.Kind.Kind}
use Rattle.pp_lint.specs.declared.row.Kind.TheVariants.{Word}

-- what is found in instructions of line k of processor n, one after another: the line's first word
-- is that of place `first`, a straight line has come to `reached` before them, and these stand
-- before them in the line
unfoldable pub instruction_findings : Profile → ℕ → List ℕ → List Note → List ChannelUse → ℕ → ℕ
    → Option ℕ → List Instruction → List Instruction → List Finding
instruction_findings profile k line notes alone n first reached before [] = []
instruction_findings profile k line notes alone n first reached before (i ∷ is) =
    fault_finding profile k line (is_reached notes n reached i.place) first i
    ++ alone_finding profile k line notes alone n first before i
    ++ instruction_findings profile k line notes alone n first (behind profile notes n reached i)
    (before ++ i ∷ []) is

-- what is found in line k, if it gives words, and a straight line has come to `reached` before it
unfoldable pub run_findings : Profile → ℕ → List ℕ → List Note → List ChannelUse → Option ℕ → Kind
    → Option Line → List Finding
run_findings profile k line notes alone reached (Word n) said =
    instruction_findings profile k line notes alone n (first_place said) reached []
    (instructions_of said)
run_findings profile k line notes alone reached kind said = []
