-- A table of the first lines that give things.
use Rattle.std.specs.Prelude.{◌≡◌, ℕ, ◌+◌, ◌*◌, ◌^◌, ◌<◌, ◌≤◌, ◌==◌, IsTrue, List, Option, None, Some, slice_index, if◌then◌else◌}
use Rattle.pp_numbers.specs.PpNo.{names_processor, processor_index}
use Rattle.pp_lint.specs.Given.{Note, first_line}
use Rattle.pp_lint.specs.declared.{row.Kind.Kind, row.Row.Row}
use Rattle.pp_lint.specs.declared.row.Kind.TheVariants.{Fault, Name, Start, Word, Central, Dead, Target, Channel}

-- where each thing stands in the table (decimal)
abbrev pub key : Kind → ℕ → ℕ
key Fault place = place
key (Name n) place = 1 + processor_index n + place
key (Start n) place = 21 + processor_index n + place
key (Word n) place = 41 + 4096 * processor_index n + place
key Central place = 81961 + place
key Dead place = 213033 + place
key (Target n) place = 213034 + 4096 * processor_index n + place
key (Channel n) place = 294954 + 64 * processor_index n + place

abbrev pub key_count : ℕ
key_count = 296234

-- how many things there are of a kind
abbrev pub size_of_kind : Kind → ℕ
size_of_kind (Word n) = 4096
size_of_kind Central = 131072
size_of_kind (Target n) = 4096
size_of_kind (Channel n) = 64
size_of_kind kind = 1

-- of a processor that there is
abbrev pub IsOfProcessor : Kind → Type 0
IsOfProcessor (Name n) = IsTrue (names_processor n)
IsOfProcessor (Start n) = IsTrue (names_processor n)
IsOfProcessor (Word n) = IsTrue (names_processor n)
IsOfProcessor (Target n) = IsTrue (names_processor n)
IsOfProcessor (Channel n) = IsTrue (names_processor n)
IsOfProcessor kind = Unit {0}

pub record IsThing (kind : Kind) (place : ℕ) : Type 0 where
  pub within : place < size_of_kind kind
  pub processor : IsOfProcessor kind

-- the number of a line that an entry of the table is; 0 is none
abbrev pub line_in : ℕ → Option ℕ
line_in entry = if entry == 0 then None else Some entry

-- the table has the number of the first line that gives a thing
abbrev pub Shows : List ℕ → List Note → Type 0
Shows table notes = (kind : Kind) (place : ℕ) → IsThing kind place
    → first_line notes kind place ≡ line_in (slice_index table (key kind place))

-- things in a row that the table has room for
pub record IsRow (row : Row) : Type 0 where
  pub small : row.first + row.count ≤ 2 ^ 18
  pub things : (i : ℕ) → i < row.count → IsThing row.kind (row.first + i)
