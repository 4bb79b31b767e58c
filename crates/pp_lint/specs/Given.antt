-- What the lines of a deck give, and which line gives it first.
use Rattle.std.specs.Prelude.{ℕ, ◌+◌, ◌==◌, ◌&&◌, Bool, true, false, List, [], ◌∷◌, ◌++◌, length, take, map, find, filter_map, Option, None, Some, option_map, slice_index_or, unwrap_or, if◌then◌else◌}
use Rattle.std.specs.List.{flat_map, last_or, list_any, range_with_len}
use Rattle.std.specs.Result.{result_ok}
use Rattle.pp_numbers.specs.declared.profile.Profile.{Profile}
use Rattle.pp_deck.specs.DeckLine.{Line, central_words, dead_start, line_after, section, start, words}
use Rattle.pp_deck.specs.DeckLoad.{processor_in}
use Rattle.pp_deck.specs.DeckMeaning.{begins_section, has_fields, size_of}
use Rattle.pp_deck.specs.DeckText.{Fields}
use Rattle.pp_lint.specs.InstructionsOfLine.{instructions_of}
use Rattle.pp_instructions.specs.InstructionEffect.{channel_named, leads_to}
use Rattle.pp_instructions.specs.declared.instruction.Instruction.{Instruction}
use Rattle.pp_lint.specs.declared.{row.Kind.Kind, row.Row.Row}
use Rattle.pp_lint.specs.declared.row.Kind.TheVariants.{Fault, Name, Start, Word, Central, Dead, Target, Channel}

-- what fields say as line k of these lines
abbrev pub said_as_line : Profile → List Fields → ℕ → Fields → Option Line
said_as_line profile lines k fields =
    result_ok (line_after profile (size_of lines) (list_any has_fields (take k lines))
    (list_any begins_section (take k lines)) fields)

-- what line k says, if it has no fault
abbrev pub said_at : Profile → List Fields → ℕ → Option Line
said_at profile lines k = said_as_line profile lines k (slice_index_or lines k [])

-- the processor that a line names
abbrev pub named_by : Option Line → Option ℕ
named_by None = None
named_by (Some line) = processor_in line

-- the processor whose section line k begins, if it begins with `PP`: none if it has a fault
abbrev pub section_begun : Profile → List Fields → ℕ → Option (Option ℕ)
section_begun profile lines k = if begins_section (slice_index_or lines k [])
    then Some (named_by (said_at profile lines k)) else None

-- the processor that line k is for, by the last line before it that begins with `PP`
unfoldable pub section_at : Profile → List Fields → ℕ → Option ℕ
section_at profile lines k = unwrap_or
    (last_or None (filter_map (section_begun profile lines) (range_with_len 0 k))) None

-- things of a kind in a row, from a place or an address on
abbrev pub row : Kind → ℕ → ℕ → Row
row kind first count = record { kind = kind; first = first; count = count }

-- what a line gives that is for this processor, if it is for one: a fault; the name of a processor,
-- its start, words of it; central words; dead start; nothing
unfoldable pub given : Option ℕ → Option Line → Row
given processor None = row Fault 0 1
given processor (Some (section n)) = row (Name n) 0 1
given (Some n) (Some (start p a)) = row (Start n) 0 1
given (Some n) (Some (words x ws)) = row (Word n) x (length ws)
given processor (Some (central_words a ws)) = row Central a (length ws)
given processor (Some dead_start) = row Dead 0 1
given processor (Some line) = row Fault 0 0

abbrev pub given_at : Profile → List Fields → ℕ → Row
given_at profile lines k = given (section_at profile lines k) (said_at profile lines k)

-- that the line of a number gives a thing of a kind, at a place
pub record Note : Type 0 where
  pub line : ℕ
  pub kind : Kind
  pub place : ℕ

abbrev pub notes_of : ℕ → Row → List Note
notes_of number given =
    map (λ i. record { line = number; kind = given.kind; place = given.first + i })
    (range_with_len 0 given.count)

abbrev pub note_if : ℕ → Kind → Option ℕ → List Note
note_if number kind None = []
note_if number kind (Some place) =
    record { line = number; kind = kind; place = place } ∷ []

-- what an instruction of processor n gives: the place that it leads to, and the channel that it is
-- for
abbrev pub notes_of_instruction : ℕ → Profile → ℕ → Instruction → List Note
notes_of_instruction number profile n i = note_if number (Target n) (leads_to profile i)
    ++ note_if number (Channel n) (channel_named profile i.word)

-- where a line starts its processor; 0 if it starts none
abbrev pub start_place : Option Line → ℕ
start_place (Some (start p a)) = p
start_place said = 0

-- what the START or the instructions of a line give that gives things of this kind
unfoldable pub notes_within : ℕ → Profile → Kind → Option Line → List Note
notes_within number profile (Start n) said = note_if number (Target n) (Some (start_place said))
notes_within number profile (Word n) said =
    flat_map (notes_of_instruction number profile n) (instructions_of said)
notes_within number profile kind said = []

abbrev pub notes_at : Profile → List Fields → ℕ → List Note
notes_at profile lines k = notes_of (k + 1) (given_at profile lines k)
    ++ notes_within (k + 1) profile (given_at profile lines k).kind (said_at profile lines k)

-- what lines give, from the first line on; lines are counted from 1
unfoldable pub notes : Profile → List Fields → List Note
notes profile lines = flat_map (notes_at profile lines) (range_with_len 0 (length lines))

abbrev pub is_kind : Kind → Kind → Bool
is_kind Fault Fault = true
is_kind (Name n) (Name m) = n == m
is_kind (Start n) (Start m) = n == m
is_kind (Word n) (Word m) = n == m
is_kind Central Central = true
is_kind Dead Dead = true
is_kind (Target n) (Target m) = n == m
is_kind (Channel n) (Channel m) = n == m
is_kind kind other = false

-- the first line that gives a thing of this kind at this place
unfoldable pub first_line : List Note → Kind → ℕ → Option ℕ
first_line all kind place = option_map (λ note. note.line)
    (find (λ note. is_kind kind note.kind && note.place == place) all)
