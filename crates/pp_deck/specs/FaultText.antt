-- How the fault of a deck is printed.
use Rattle.std.specs.Prelude.{ℕ, List, ◌++◌, codes}
use Rattle.pp_word.specs.Numeral.{short_decimal}
use Rattle.pp_deck.specs.declared.{deck_fault.DeckCode.DeckCode, deck_fault.DeckFault.DeckFault}

abbrev pub code_number : DeckCode → ℕ
code_number DeckCode.TooLong = 1
code_number DeckCode.NotAscii = 2
code_number DeckCode.UnknownLine = 3
code_number DeckCode.BadDigits = 4
code_number DeckCode.BadProcessor = 5
code_number DeckCode.NoProcessor = 6
code_number DeckCode.PastEnd = 7
code_number DeckCode.CentralRange = 8
code_number DeckCode.Memory = 9

-- `deck fault 4 at line 3`
abbrev pub deck_fault_text : DeckFault → List ℕ
deck_fault_text fault = codes "deck fault " ++ short_decimal (code_number fault.code)
    ++ codes " at line " ++ short_decimal fault.line
