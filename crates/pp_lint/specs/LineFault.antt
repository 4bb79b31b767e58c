-- A fault of a line as it is met, field by field.
use Rattle.std.specs.Prelude.{◌≡◌, ◌≢◌, ℕ, ◌+◌, ◌-◌, ◌<◌, ◌≤◌, ◌||◌, List, [], ◌∷◌, length, take, Bool, true, false, nat_lt, Option, None, Some, if◌then◌else◌}
use Rattle.std.specs.List.{list_any}
use Rattle.std.specs.Result.{result_ok}
use Rattle.pp_word.specs.Numeral.{numeral}
use Rattle.pp_numbers.specs.declared.profile.Profile.{Profile}
use Rattle.pp_deck.specs.DeckLine.{Line, line_after}
use Rattle.pp_deck.specs.DeckMeaning.{begins_section, has_fields, size_of}
use Rattle.pp_deck.specs.DeckText.{Field, Fields}
use Rattle.pp_deck.specs.Flaw.{code_of}
use Rattle.pp_deck.specs.declared.deck_fault.DeckCode.{DeckCode}
use Rattle.pp_lint.specs.FieldAtFault.{fault_in, fault_number}
use Rattle.pp_lint.specs.Given.{named_by, section_at}
use Rattle.pp_lint.specs.declared.{line_fault.Before.Before, line_fault.Fault.Fault}

-- what fields say as a line after others, and the fault that they have if they say nothing
abbrev pub said_after : Before → Fields → Option Line
said_after before fields = result_ok (line_after before.profile before.size
    before.is_after_fields before.is_in_section fields)

abbrev pub fault_after : Before → Fields → Option DeckCode
fault_after before fields = fault_in code_of (line_after before.profile before.size
    before.is_after_fields before.is_in_section fields)

-- fields, of which the first is that of this number, have this fault: with and without those after
-- the field at fault, but not without it
pub record HasFault (fault_of : Fields → Option DeckCode) (fields : Fields) (first : ℕ)
    (fault : Fault) : Type 0 where
  pub not_before : first ≤ fault.field
  pub within : fault.field < first + length fields
  pub from : (n : ℕ) → fault.field < first + n → fault_of (take n fields) ≡ Some fault.code
  pub without : fault_number (fault_of (take (fault.field - first) fields))
      ≢ fault_number (Some fault.code)

abbrev pub IsFaultOf : (Fields → Option DeckCode) → Fields → ℕ → Option Fault → Type 0
IsFaultOf fault_of fields first None = fault_of fields ≡ None
IsFaultOf fault_of fields first (Some fault) = HasFault fault_of fields first fault

-- the fault of a line that begins with a keyword, by that of the fields after it
abbrev pub IsFaultOfLine : (Fields → Option DeckCode) → Fields → Option Fault → Type 0
IsFaultOfLine fault_of fields fault = (keyword : Field) (fault_of_line : Fields → Option DeckCode)
    → fault_of_line [] ≡ None
    → ((more : Fields) → fault_of_line (keyword ∷ more) ≡ fault_of more)
    → IsFaultOf fault_of_line (keyword ∷ fields) 0 fault

-- a number of at most `most` digits stands first, or the fields have this fault
pub record BeginWithNumber (most : ℕ) (fault_of : Fields → Option DeckCode) : Type 0 where
  pub missing : fault_of [] ≡ Some DeckCode.UnknownLine
  pub bad : (field : Field) (more : Fields) → numeral 8 most field ≡ None
      → fault_of (field ∷ more) ≡ Some DeckCode.BadDigits

-- the fault of words of at most `most` digits, by the place of the first; from the end on there is
-- no place
abbrev pub fault_of_word : Option ℕ → Bool → DeckCode → Option DeckCode → Option DeckCode
fault_of_word None is_within past later = Some DeckCode.BadDigits
fault_of_word (Some word) true past later = later
fault_of_word (Some word) false past later = Some past

abbrev pub fault_of_words : ℕ → ℕ → DeckCode → ℕ → Fields → Option DeckCode
fault_of_words most end past place [] = None
fault_of_words most end past place (field ∷ fields) = fault_of_word (numeral 8 most field)
    (nat_lt place end) past (fault_of_words most end past (place + 1) fields)

-- what a line with these fields leaves for the next one
abbrev pub after_fields : Before → Fields → Before
after_fields before fields = record before {
  is_after_fields = before.is_after_fields || has_fields fields;
  is_in_section = before.is_in_section || begins_section fields;
  section = if begins_section fields then named_by (said_after before fields) else before.section;
}

-- what stands before line k
abbrev pub before_line : Profile → List Fields → ℕ → Before
before_line profile lines k = record {
  profile = profile;
  size = size_of lines;
  is_after_fields = list_any has_fields (take k lines);
  is_in_section = list_any begins_section (take k lines);
  section = section_at profile lines k;
}

-- the number of at most six digits in fields of which there is one alone
abbrev pub lone_number : Fields → Option ℕ
lone_number [] = None
lone_number (field ∷ []) = numeral 8 6 field
lone_number (field ∷ next ∷ fields) = None
