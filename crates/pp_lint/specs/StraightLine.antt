-- Instructions that fault wherever they are run, where START or a jump leads to them in a straight
-- line: to one of them, or to one from which each goes on to the next, in the order of the deck.
use Rattle.std.specs.Prelude.{ℕ, ◌+◌, ◌-◌, ◌==◌, ◌&&◌, ◌||◌, zero, suc, Bool, false, List, [], ◌∷◌, ◌++◌, codes, is_some, Option, None, Some, if◌then◌else◌}
use Rattle.pp_word.specs.Numeral.{short_decimal}
use Rattle.pp_numbers.specs.declared.profile.Profile.{Profile}
use Rattle.pp_deck.specs.DeckLine.{Line}
use Rattle.pp_deck.specs.DeckText.{Fields}
use Rattle.pp_lint.specs.Finding.{Finding}
use Rattle.pp_lint.specs.Given.{Note, first_line, given_at, notes, said_at}
use Rattle.pp_instructions.specs.Instruction.{words_and_text}
use Rattle.pp_lint.specs.InstructionsOfLine.{instructions_of}
use Rattle.pp_instructions.specs.InstructionEffect.{goes_on, place_behind, sure_fault}
use Rattle.pp_lint.specs.Warnings.{field_finding}
use Rattle.pp_instructions.specs.declared.instruction.Instruction.{Instruction}
use Rattle.pp_lint.specs.declared.{row.Kind.Kind}
use Rattle.pp_lint.specs.declared.row.Kind.TheVariants.{Name, Word, Target}

abbrev pub is_at : ℕ → Option ℕ → Bool
is_at place None = false
is_at place (Some other) = other == place

-- whether a place of processor n is reached: by a straight line that has come to `reached`, or by
-- START or a jump
abbrev pub is_reached : List Note → ℕ → Option ℕ → ℕ → Bool
is_reached notes n reached place =
    is_at place reached || is_some (first_line notes (Target n) place)

-- where a straight line has come to behind an instruction: nowhere, if that is not reached
unfoldable pub behind : Profile → List Note → ℕ → Option ℕ → Instruction → Option ℕ
behind profile notes n reached i = if is_reached notes n reached i.place && goes_on profile i.word
    then Some (place_behind i) else None

-- behind all of these
unfoldable pub behind_all : Profile → List Note → ℕ → Option ℕ → List Instruction → Option ℕ
behind_all profile notes n reached [] = reached
behind_all profile notes n reached (i ∷ is) =
    behind_all profile notes n (behind profile notes n reached i) is

-- behind a line: a `PP` line ends it
unfoldable pub behind_line : Profile → List Note → Kind → Option Line → Option ℕ → Option ℕ
behind_line profile notes (Name n) said reached = None
behind_line profile notes (Word n) said reached =
    behind_all profile notes n reached (instructions_of said)
behind_line profile notes kind said reached = reached

-- before line k
unfoldable pub reached_at : Profile → List Fields → ℕ → Option ℕ
reached_at profile lines zero = None
reached_at profile lines (suc k) = behind_line profile (notes profile lines)
    (given_at profile lines k).kind (said_at profile lines k) (reached_at profile lines k)

-- the field of an instruction, in a line whose first word is that of this place
abbrev pub field_of : ℕ → Instruction → ℕ
field_of first i = i.place + 1 - first

-- `2600 is EXN 00: FAULT 1 wherever it is run`
unfoldable pub fault_text : ℕ → Instruction → List ℕ
fault_text fault i = words_and_text i.place i.word i.second
    ++ codes ": FAULT " ++ short_decimal fault ++ codes " wherever it is run"

abbrev pub found_fault : ℕ → List ℕ → ℕ → Instruction → Option ℕ → List Finding
found_fault k line first i None = []
found_fault k line first i (Some fault) =
    field_finding (k + 1) line (field_of first i) (fault_text fault i) ∷ []

abbrev pub fault_finding : Profile → ℕ → List ℕ → Bool → ℕ → Instruction → List Finding
fault_finding profile k line is_reached first i =
    if is_reached then found_fault k line first i (sure_fault profile i.word) else []
