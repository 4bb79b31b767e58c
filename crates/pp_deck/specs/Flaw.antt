-- The codes under which the flaws of lines are reported.
use Rattle.pp_deck.specs.declared.{deck_fault.DeckCode.DeckCode, flaw.Flaw.Flaw}

abbrev pub code_of : Flaw → DeckCode
code_of Flaw.UnknownLine = DeckCode.UnknownLine
code_of Flaw.BadDigits = DeckCode.BadDigits
code_of Flaw.BadProcessor = DeckCode.BadProcessor
code_of Flaw.NoProcessor = DeckCode.NoProcessor
code_of Flaw.PastEnd = DeckCode.PastEnd
code_of Flaw.CentralRange = DeckCode.CentralRange
