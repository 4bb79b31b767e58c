-- What is found in a line that has no fault, by what other lines give.
use Rattle.std.specs.Prelude.{ℕ, ◌+◌, ◌&&◌, ◌||◌, Bool, true, false, not, List, [], ◌∷◌, ◌++◌, codes, find, is_some, nat_lt, Option, None, Some, unwrap_or, if◌then◌else◌}
use Rattle.std.specs.List.{list_any, range_with_len}
use Rattle.pp_word.specs.Address.{place_count}
use Rattle.pp_word.specs.Numeral.{octal, short_decimal, short_octal}
use Rattle.pp_deck.specs.DeckLine.{Line, section, start}
use Rattle.pp_instructions.specs.Column.{column_of}
use Rattle.pp_lint.specs.Finding.{Finding}
use Rattle.pp_lint.specs.Given.{Note, first_line, given}
use Rattle.pp_lint.specs.declared.{row.Kind.Kind, row.Row.Row}
use Rattle.pp_lint.specs.declared.row.Kind.TheVariants.{Fault, Name, Start, Word, Central, Dead}

-- this is said of field i of the line of a number
abbrev pub field_finding : ℕ → List ℕ → ℕ → List ℕ → Finding
field_finding number line i words =
    record { line = number; column = column_of line i; words = words }

-- whether some line gives it, and that before line k
abbrev pub is_before : ℕ → Option ℕ → Bool
is_before k None = false
is_before k (Some number) = nat_lt number (k + 1)

-- ---- what is set twice

-- words, central words and starts are set
abbrev pub is_set : Kind → Bool
is_set (Word n) = true
is_set Central = true
is_set (Start n) = true
is_set kind = false

-- `0100`, `CM 20`, `START`
abbrev pub set_text : Kind → ℕ → List ℕ
set_text (Word n) place = octal 4 place
set_text Central address = codes "CM " ++ short_octal 6 address
set_text kind place = codes "START"

-- the field of a line in which the first stands that it sets
abbrev pub first_field : Kind → ℕ
first_field (Word n) = 1
first_field Central = 2
first_field kind = 0

-- `0105 is set in line 4 too`, with the first line that sets it
unfoldable pub twice_text : Kind → ℕ → ℕ → List ℕ
twice_text kind place first =
    set_text kind place ++ codes " is set in line " ++ short_decimal first ++ codes " too"

-- this of the i-th thing in a row
abbrev pub twice_found : ℕ → List ℕ → List Note → Row → Option ℕ → List Finding
twice_found k line notes row None = []
twice_found k line notes row (Some i) = field_finding (k + 1) line (first_field row.kind + i)
    (twice_text row.kind (row.first + i)
    (unwrap_or (first_line notes row.kind (row.first + i)) 0)) ∷ []

-- the first of a row that a line before line k sets
abbrev pub first_twice : ℕ → List Note → Row → Option ℕ
first_twice k notes row =
    find (λ i. is_before k (first_line notes row.kind (row.first + i))) (range_with_len 0 row.count)

unfoldable pub twice_findings : ℕ → List ℕ → List Note → Row → List Finding
twice_findings k line notes row =
    if is_set row.kind then twice_found k line notes row (first_twice k notes row) else []

-- ---- what is lacking

-- no line gives it, and no line has a fault
abbrev pub is_lacking : List Note → Kind → ℕ → Bool
is_lacking notes kind place =
    not (is_some (first_line notes kind place)) && not (is_some (first_line notes Fault 0))

unfoldable pub has_words : List Note → ℕ → Bool
has_words notes n =
    list_any (λ place. is_some (first_line notes (Word n) place)) (range_with_len 0 place_count)

-- whether it is the first line that names a processor without a start; one that has no words may
-- be named so that it does not wait at dead start
abbrev pub names_without_start : ℕ → List Note → ℕ → Bool
names_without_start k notes n = not (is_before k (first_line notes (Name n) 0))
    && is_lacking notes (Start n) 0 && (has_words notes n || is_lacking notes Dead 0)

unfoldable pub startless_text : ℕ → List ℕ
startless_text n = codes "PP " ++ short_octal 2 n ++ codes " has no START"

unfoldable pub wordless_text : ℕ → List ℕ
wordless_text p = codes "START " ++ octal 4 p ++ codes ", where no word is"

unfoldable pub no_start_findings : ℕ → List ℕ → List Note → ℕ → List Finding
no_start_findings k line notes n = if names_without_start k notes n
    then field_finding (k + 1) line 0 (startless_text n) ∷ [] else []

unfoldable pub no_word_findings : ℕ → List ℕ → List Note → ℕ → ℕ → List Finding
no_word_findings k line notes n p = if is_lacking notes (Word n) p
    then field_finding (k + 1) line 1 (wordless_text p) ∷ [] else []

abbrev pub lacking_findings : ℕ → List ℕ → List Note → Option ℕ → Option Line → List Finding
lacking_findings k line notes processor (Some (section n)) = no_start_findings k line notes n
lacking_findings k line notes (Some n) (Some (start p a)) = no_word_findings k line notes n p
lacking_findings k line notes processor said = []

-- what is found in line k, which is for this processor and says this, by what all lines give
unfoldable pub warnings : ℕ → List ℕ → List Note → Option ℕ → Option Line → List Finding
warnings k line notes processor said = twice_findings k line notes (given processor said)
    ++ lacking_findings k line notes processor said
