-- What a line without a fault gives, by its fields.
use Rattle.std.specs.Prelude.{◌≡◌, true, ℕ, List, [], ◌∷◌, bytes_eq, drop, length, take, unwrap_or, Option, None, Some, if◌then◌else◌}
use Rattle.pp_deck.specs.DeckText.{Field, Fields, fields_of}
use Rattle.pp_lint.specs.Findings.{mark}
use Rattle.pp_lint.specs.Given.{row, start_place}
use Rattle.pp_lint.specs.LineFault.{said_after}
use Rattle.pp_lint.specs.Warnings.{is_set}
use Rattle.pp_lint.specs.WordsOfLine.{HasNoFault}
use Rattle.pp_instructions.specs.WordsInFields.{word_in}
use Rattle.pp_word.specs.Numeral.{numeral}
use Rattle.pp_lint.specs.declared.{line_fault.Before.Before, row.Kind.Kind, row.Row.Row}
use Rattle.pp_lint.specs.declared.row.Kind.TheVariants.{Fault, Name, Start, Word, Central}

-- the name that a `PP` line gives
abbrev pub named_row : Option ℕ → Row
named_row None = row Fault 0 0
named_row (Some n) = row (Name n) 0 1

-- what a `START` line gives that is for this processor
abbrev pub start_row : Option ℕ → Row
start_row None = row Fault 0 0
start_row (Some n) = row (Start n) 0 1

-- the words of `x w w ..`, by its first field and those after it
abbrev pub words_row : Option ℕ → Field → Fields → Row
words_row None first fields = row Fault 0 0
words_row (Some n) first fields = row (Word n) (word_in first) (length fields)

-- the words of `CM a w w ..`, by the fields after its keyword
abbrev pub central_row : Fields → Row
central_row [] = row Fault 0 0
central_row (field ∷ fields) = row Central (unwrap_or (numeral 8 6 field) 0) (length fields)

-- the place in the second field
abbrev pub place_in_second : Fields → ℕ
place_in_second (keyword ∷ field ∷ fields) = word_in field
place_in_second fields = 0

-- a line gives things of this kind where it stands: it has no fault, if it sets something
pub record Gives (before : Before) (line : List ℕ) (kind : Kind) : Type 0 where
  pub clean : is_set kind ≡ true → HasNoFault before line
  pub start : (n : ℕ) → kind ≡ Start n
      → start_place (said_after before (fields_of line)) ≡ place_in_second (fields_of line)

-- the text of a deck, behind a byte order mark
abbrev pub text_in : List ℕ → List ℕ
text_in deck = if bytes_eq (take 3 deck) mark then drop 3 deck else deck
