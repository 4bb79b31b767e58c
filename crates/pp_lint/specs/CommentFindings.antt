-- What is found in the comment of a line: where what it says of an instruction is not so.
use Rattle.std.specs.Prelude.{ℕ, ◌+◌, ◌==◌, ◌&&◌, ◌||◌, Bool, false, List, [], ◌∷◌, ◌++◌, Option, None, Some, codes, drop, length, slice_get, if◌then◌else◌}
use Rattle.std.specs.Str.{bytes_eq}
use Rattle.pp_deck.specs.DeckLine.{Line, words}
use Rattle.pp_deck.specs.DeckText.{fields_of}
use Rattle.pp_instructions.specs.Claim.{Claim, claims, comment_place}
use Rattle.pp_instructions.specs.Column.{column_of}
use Rattle.pp_lint.specs.Finding.{Finding}
use Rattle.pp_instructions.specs.Instruction.{instructions, may_have, mnemonic_of, words_and_text}
use Rattle.pp_instructions.specs.declared.instruction.Instruction.{Instruction}

-- `UJN 0205`, `LJM`
abbrev pub claim_text : Claim → List ℕ
claim_text claim = claim.mnemonic
    ++ (if length claim.operand == 0 then [] else codes " " ++ claim.operand)

abbrev pub is_so : Claim → Instruction → Bool
is_so claim i = bytes_eq (mnemonic_of i.word) claim.mnemonic
    && (length claim.operand == 0 || may_have i.place i.word i.second claim.operand)

-- what is said of a claim, if there is no such instruction, or another
abbrev pub against : Claim → Option Instruction → List ℕ
against claim None = claim_text claim ++ codes ", but no word is left"
against claim (Some i) =
    claim_text claim ++ codes ", but " ++ words_and_text i.place i.word i.second

abbrev pub is_so_there : Claim → Option Instruction → Bool
is_so_there claim None = false
is_so_there claim (Some instruction) = is_so claim instruction

-- a claim of line k, by the instruction that it is about; column i is that of the comment's field i
abbrev pub claim_findings : ℕ → (ℕ → ℕ) → Claim → Option Instruction → List Finding
claim_findings k column claim instruction = if is_so_there claim instruction then [] else record {
  line = k + 1;
  column = column claim.field;
  words = against claim instruction;
} ∷ []

-- the first claim is about the first instruction, and so on
unfoldable pub claims_findings : ℕ → (ℕ → ℕ) → List Claim → List Instruction → List Finding
claims_findings k column [] is = []
claims_findings k column (claim ∷ more) is =
    claim_findings k column claim (slice_get is 0) ++ claims_findings k column more (drop 1 is)

-- behind the `*` of the comment
abbrev pub findings_behind : ℕ → List ℕ → List Instruction → Option ℕ → List Finding
findings_behind k line is None = []
findings_behind k line is (Some star) = let comment = drop (star + 1) line in
    claims_findings k (λ i. star + 1 + column_of comment i) (claims 0 (fields_of comment)) is

-- what is found in the comment of line k, if that is a line of words
unfoldable pub comment_findings : ℕ → List ℕ → Option Line → List Finding
comment_findings k line (Some (words x ws)) =
    findings_behind k line (instructions x ws) (comment_place line)
comment_findings k line said = []
