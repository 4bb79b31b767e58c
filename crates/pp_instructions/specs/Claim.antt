-- What a comment says of the instructions of its line: `* LDN 5, STM 0300,20: the next word` is a
-- mnemonic and its operand for each, with comma or semicolon between. What comes after a colon, or
-- after a field that is neither, is prose. Characters are ASCII codes in decimal: `*` is 42, a
-- comma 44, a colon 58, a semicolon 59.
use Rattle.std.specs.Prelude.{ℕ, ◌+◌, ◌-◌, ◌==◌, ◌&&◌, ◌||◌, Bool, not, List, [], ◌∷◌, Option, length, take, slice_index, find, if◌then◌else◌}
use Rattle.std.specs.List.{list_all, list_any, range_with_len}
use Rattle.std.specs.Str.{bytes_eq}
use Rattle.pp_word.specs.Numeral.{is_digit}
use Rattle.pp_word.specs.Opcode.{operations, row_of}
use Rattle.pp_deck.specs.DeckText.{Field, Fields}
use Rattle.pp_instructions.specs.Column.{begins_field}

-- what is said of an instruction: its mnemonic, which is this field of the comment, the first 0;
-- and its operand, empty if none is said
pub record Claim : Type 0 where
  pub field : ℕ
  pub mnemonic : List ℕ
  pub operand : List ℕ

-- the place of the `*` with which the comment of a line begins
abbrev pub begins_comment : List ℕ → ℕ → Bool
begins_comment line i = begins_field line i && slice_index line i == 42

unfoldable pub comment_place : List ℕ → Option ℕ
comment_place line = find (begins_comment line) (range_with_len 0 (length line))

abbrev pub last_of : Field → ℕ
last_of field = slice_index field (length field - 1)

-- whether a field ends with comma or semicolon: then one more mnemonic may come
abbrev pub goes_on : Field → Bool
goes_on field = last_of field == 44 || last_of field == 59

-- whether it ends with one of them, or with a colon
abbrev pub is_marked : Field → Bool
is_marked field = goes_on field || last_of field == 58

-- a field without such a mark
abbrev pub unmarked : Field → Field
unmarked field = if is_marked field then take (length field - 1) field else field

unfoldable pub is_mnemonic : Field → Bool
is_mnemonic field = list_any (λ op. bytes_eq (row_of op).mnemonic field) operations

-- an octal digit, and then such digits and commas: `5`, `0300,20`
unfoldable pub is_operand : Field → Bool
is_operand field = is_digit 8 (slice_index field 0)
    && list_all (λ character. is_digit 8 character || character == 44) field

abbrev pub claim : ℕ → Field → Field → Claim
claim n mnemonic operand = record { field = n; mnemonic = mnemonic; operand = operand }

-- what the fields of a comment say from field n on
unfoldable pub claims : ℕ → Fields → List Claim
claims n [] = []
claims n (field ∷ []) =
    if is_mnemonic (unmarked field) then claim n (unmarked field) [] ∷ [] else []
claims n (field ∷ next ∷ fields) =
    if not (is_mnemonic (unmarked field)) then []
    else if is_marked field || not (is_operand (unmarked next))
    then claim n (unmarked field) []
    ∷ (if goes_on field then claims (n + 1) (next ∷ fields) else [])
    else claim n (unmarked field) (unmarked next)
    ∷ (if goes_on next then claims (n + 2) fields else [])
