-- At which field of a line its fault is.
use Rattle.std.specs.Prelude.{ℕ, ◌==◌, Bool, not, length, take, filter, Option, None, Some, Result, option_map, unwrap_or}
use Rattle.std.specs.List.{last_or, range_with_len}
use Rattle.std.specs.Result.{result_err}
use Rattle.pp_deck.specs.DeckText.{Fields}
use Rattle.pp_deck.specs.FaultText.{code_number}
use Rattle.pp_deck.specs.declared.deck_fault.DeckCode.{DeckCode}

-- the fault in what was read, if there is one, by the code of what is wrong
abbrev pub fault_in : {A Flaw : Type 0} → (Flaw → DeckCode) → Result A Flaw → Option DeckCode
fault_in code_of read = option_map code_of (result_err read)

-- the number of a fault, as in `deck fault 4`, and 0 if there is none
abbrev pub fault_number : Option DeckCode → ℕ
fault_number None = 0
fault_number (Some code) = code_number code

-- by the fault that fields have as a line: whether they have another, or none, without field i and
-- those after it
abbrev pub differs_before : (Fields → Option DeckCode) → Fields → ℕ → Bool
differs_before fault_of fields i =
    not (fault_number (fault_of (take i fields)) == fault_number (fault_of fields))

-- the field at which a line is at fault: the last without which, and without those after it, the
-- line has another fault or none
unfoldable pub field_at_fault : (Fields → Option DeckCode) → Fields → ℕ
field_at_fault fault_of fields = unwrap_or (last_or None
    (filter (differs_before fault_of fields) (range_with_len 0 (length fields)))) 0
