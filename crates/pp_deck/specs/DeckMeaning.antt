-- What a whole deck means: the machine that it loads, the processors that it names, or its fault.
use Rattle.std.specs.Prelude.{ℕ, ◌+◌, ◌&&◌, Bool, true, false, not, List, [], ◌∷◌, length, take, Option, None, Some, Result, Ok, Err, slice_index_or, nat_lt, nat_le, count_by, find, filter_map, position, if◌then◌else◌}
use Rattle.std.specs.List.{list_any, range_with_len}
use Rattle.std.specs.Result.{result_ok}
use Rattle.pp_machine.specs.DeadStart.{dead_started}
use Rattle.pp_machine.specs.MachineState.{MachineState}
use Rattle.pp_numbers.specs.PpNo.{processor_index, each_processor}
use Rattle.pp_numbers.specs.Profile.{has_processor}
use Rattle.pp_numbers.specs.declared.profile.Profile.{Profile}
use Rattle.pp_deck.specs.DeckLine.{Line, central_size, keyword_of, central_line, line_after}
use Rattle.pp_deck.specs.DeckLoad.{machine_loaded, is_named, asks_dead_start}
use Rattle.pp_deck.specs.DeckText.{Fields, is_line_feed, lines_of}
use Rattle.pp_deck.specs.Flaw.{code_of}
use Rattle.pp_deck.specs.declared.deck_fault.DeckCode.TheVariants.{TooLong, NotAscii}
use Rattle.pp_deck.specs.declared.{deck_fault.DeckFault.DeckFault, flaw.Flaw.Flaw, keyword.Keyword.Keyword}

-- the machine that a deck loads, and whether it names each processor, in the order of the barrel
pub record LoadedDeck : Type 0 where
  pub machine : MachineState
  pub named : List Bool

-- whether each processor is to wait at dead start: those of the profile that are not named
abbrev pub unnamed_in : Profile → List Bool → List Bool
unnamed_in profile named = each_processor (λ n. has_processor profile n
    && not (slice_index_or named (processor_index n) false))

-- dead start, if a deck asks for it: processors that it does not name wait for their programs
abbrev pub with_dead_start : Bool → LoadedDeck → LoadedDeck
with_dead_start true deck =
    record deck { machine = dead_started (unnamed_in deck.machine.profile deck.named) deck.machine }
with_dead_start false deck = deck

-- what lines set and name, in a machine of this profile with a central memory of this size
abbrev pub set_by : Profile → ℕ → List Line → LoadedDeck
set_by profile size lines =
    record { machine = machine_loaded profile size lines; named = each_processor (is_named lines) }

abbrev pub loaded : Profile → ℕ → List Line → LoadedDeck
loaded profile size lines = with_dead_start (asks_dead_start lines) (set_by profile size lines)

-- ---- what each line says where it stands; line k has k lines before it

abbrev pub has_fields : Fields → Bool
has_fields fields = nat_lt 0 (length fields)

abbrev pub is_processor_keyword : Keyword → Bool
is_processor_keyword Keyword.Processor = true
is_processor_keyword keyword = false

-- whether a line begins with `PP`
abbrev pub begins_section : Fields → Bool
begins_section [] = false
begins_section (field ∷ fields) = is_processor_keyword (keyword_of field)

-- what line k says
unfoldable pub line_at : Profile → ℕ → List Fields → ℕ → Result Line Flaw
line_at profile size lines k = line_after profile size (list_any has_fields (take k lines))
    (list_any begins_section (take k lines)) (slice_index_or lines k [])

-- ---- the size of central memory: n of a first line with fields `CENTRAL n`, else 10000 (octal)

abbrev pub stated_size : Result Line Flaw → ℕ
stated_size (Ok (central_size n)) = n
stated_size line = 0o10000

abbrev pub size_by : Keyword → Fields → ℕ
size_by Keyword.Central fields = stated_size (central_line fields)
size_by keyword fields = 0o10000

abbrev pub size_in : Option Fields → ℕ
size_in (Some (field ∷ fields)) = size_by (keyword_of field) fields
size_in line = 0o10000

unfoldable pub size_of : List Fields → ℕ
size_of lines = size_in (find has_fields lines)

-- the fault of line k, counted from 1
abbrev pub fault_in : ℕ → Result Line Flaw → Option DeckFault
fault_in k (Ok line) = None
fault_in k (Err flaw) = Some (record { line = k + 1; code = code_of flaw })

unfoldable pub faults_in : Profile → List Fields → List DeckFault
faults_in profile lines = filter_map (λ k. fault_in k (line_at profile (size_of lines) lines k))
    (range_with_len 0 (length lines))

-- what lines without a fault say, one after another
unfoldable pub parsed_deck : Profile → List Fields → List Line
parsed_deck profile lines = filter_map (λ k. result_ok (line_at profile (size_of lines) lines k))
    (range_with_len 0 (length lines))

abbrev pub unless_faulty : List DeckFault → LoadedDeck → Result LoadedDeck DeckFault
unless_faulty (fault ∷ faults) deck = Err fault
unless_faulty [] deck = Ok deck

-- what lines mean: the first fault, else what they load
unfoldable pub meaning_of_lines : Profile → List Fields → Result LoadedDeck DeckFault
meaning_of_lines profile lines = unless_faulty (faults_in profile lines)
    (loaded profile (size_of lines) (parsed_deck profile lines))

-- a byte that is not ASCII: from 200 (octal) on
abbrev pub is_foreign : ℕ → Bool
is_foreign byte = nat_le 0o200 byte

-- the number of the line in which byte i of a text stands, counted from 1
abbrev pub line_of_byte : List ℕ → ℕ → ℕ
line_of_byte text i = count_by is_line_feed (take i text) + 1

abbrev pub unless_foreign : Profile → List ℕ → Option ℕ → Result LoadedDeck DeckFault
unless_foreign profile text (Some i) = Err (record { line = line_of_byte text i; code = NotAscii })
unless_foreign profile text None = meaning_of_lines profile (lines_of text)

-- what a deck means for a machine of this profile: at most 1,048,576 (decimal) bytes, all ASCII
unfoldable pub deck_meaning : Profile → List ℕ → Result LoadedDeck DeckFault
deck_meaning profile text =
    if nat_lt 1048576 (length text) then Err (record { line = 0; code = TooLong })
    else unless_foreign profile text (position is_foreign text)
