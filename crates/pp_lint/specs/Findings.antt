-- What is found in a deck, in the order of its lines.
use Rattle.std.specs.Prelude.{ℕ, ◌+◌, Bool, true, false, List, [], ◌∷◌, ◌++◌, length, take, drop, map, Option, None, Some, position, bytes_eq, codes, slice_index_or, nat_lt, if◌then◌else◌}
use Rattle.std.specs.List.{flat_map, list_any, range_with_len, slice_split}
use Rattle.pp_numbers.specs.declared.profile.Profile.{Profile}
use Rattle.pp_deck.specs.DeckLine.{Line, line_after}
use Rattle.pp_deck.specs.DeckMeaning.{begins_section, deck_meaning, has_fields, is_foreign, size_of}
use Rattle.pp_deck.specs.DeckText.{Fields, fields_of, is_line_feed}
use Rattle.pp_deck.specs.Flaw.{code_of}
use Rattle.pp_deck.specs.declared.deck_fault.DeckCode.{DeckCode}
use Rattle.pp_deck.specs.declared.deck_fault.DeckCode.TheVariants.{TooLong, NotAscii}
use Rattle.pp_instructions.specs.Column.{column_of}
use Rattle.pp_lint.specs.ChannelUse.{alone_uses_in}
use Rattle.pp_lint.specs.CommentFindings.{comment_findings}
use Rattle.pp_lint.specs.FaultWords.{fault_words}
use Rattle.pp_lint.specs.FieldAtFault.{fault_in, field_at_fault}
use Rattle.pp_lint.specs.Finding.{Finding}
use Rattle.pp_lint.specs.Given.{Note, given, notes, said_as_line, section_at}
use Rattle.pp_lint.specs.RunFindings.{run_findings}
use Rattle.pp_lint.specs.StraightLine.{reached_at}
use Rattle.pp_lint.specs.Warnings.{warnings}
use Rattle.pp_lint.specs.declared.channel_use.ChannelUse.{ChannelUse}

-- the fault that fields have as line k of these lines, if they say nothing
abbrev pub fault_as_line : Profile → List Fields → ℕ → Fields → Option DeckCode
fault_as_line profile lines k fields =
    fault_in code_of (line_after profile (size_of lines) (list_any has_fields (take k lines))
    (list_any begins_section (take k lines)) fields)

-- this fault of line k at field i
abbrev pub fault_found : ℕ → List ℕ → DeckCode → ℕ → Finding
fault_found k line code i = record {
  line = k + 1;
  column = column_of line i;
  words = fault_words code (slice_index_or (fields_of line) i []);
}

-- the fault that the fields of line k have; if they have none, what else is found in it
abbrev pub found_in : ℕ → List ℕ → (Fields → Option DeckCode) → List Finding → Option DeckCode
    → List Finding
found_in k line fault_of else_found None = else_found
found_in k line fault_of else_found (Some code) =
    fault_found k line code (field_at_fault fault_of (fields_of line)) ∷ []

-- the first byte of line k that is not ASCII; if all are, what is found in it by its fields
abbrev pub found_unless_foreign : ℕ → List ℕ → (Fields → Option DeckCode) → List Finding → Option ℕ
    → List Finding
found_unless_foreign k line fault_of else_found (Some i) =
    record { line = k + 1; column = i + 1; words = fault_words NotAscii [] } ∷ []
found_unless_foreign k line fault_of else_found None =
    found_in k line fault_of else_found (fault_of (fields_of line))

unfoldable pub line_findings : ℕ → List ℕ → (Fields → Option DeckCode) → List Finding → List Finding
line_findings k line fault_of else_found =
    found_unless_foreign k line fault_of else_found (position is_foreign line)

-- what is found in line k if it has no fault: by what all lines give, by its instructions, and in
-- its comment
abbrev pub found_without_fault : Profile → ℕ → List ℕ → List Note → List ChannelUse → Option ℕ
    → Option ℕ → Option Line → List Finding
found_without_fault profile k line notes alone reached processor said =
    warnings k line notes processor said
    ++ run_findings profile k line notes alone reached (given processor said).kind said
    ++ comment_findings k line said

-- what is found in line k of these lines, by the channels that one processor alone uses
abbrev pub findings_at : Profile → List (List ℕ) → List ChannelUse → ℕ → List Finding
findings_at profile lines alone k =
    let line = slice_index_or lines k [] in
    let fields = map fields_of lines in
    line_findings k line (fault_as_line profile fields k)
    (found_without_fault profile k line (notes profile fields) alone (reached_at profile fields k)
    (section_at profile fields k) (said_as_line profile fields k (fields_of line)))

-- what is found in the lines of a text
unfoldable pub findings_in : Profile → List ℕ → List Finding
findings_in profile text = let lines = slice_split is_line_feed text in
    let alone = alone_uses_in (deck_meaning profile text) in
    flat_map (findings_at profile lines alone) (range_with_len 0 (length lines))

-- the byte order mark of UTF-8: 357 273 277 in octal
abbrev pub mark : List ℕ
mark = 0o357 ∷ 0o273 ∷ 0o277 ∷ []

-- a mark that is found, before what is found in the text after it; if there is none, in the text
abbrev pub mark_and_findings : Profile → List ℕ → Bool → List Finding
mark_and_findings profile text true =
    record { line = 1; column = 1; words = codes "byte order mark" }
    ∷ findings_in profile (drop 3 text)
mark_and_findings profile text false = findings_in profile text

-- what is found in a deck of a machine of this profile; of one that is too long nothing else
unfoldable pub findings : Profile → List ℕ → List Finding
findings profile deck = if nat_lt 1048576 (length deck)
    then record { line = 1; column = 1; words = fault_words TooLong [] } ∷ []
    else mark_and_findings profile deck (bytes_eq (take 3 deck) mark)
