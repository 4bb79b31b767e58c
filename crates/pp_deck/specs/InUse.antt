-- Which processors of a loaded deck are in use.
use Rattle.std.specs.Prelude.{ℕ, ◌||◌, Bool, List}
use Rattle.pp_machine.specs.MachineState.{is_opened}
use Rattle.pp_numbers.specs.PpNo.{each_processor, is_named}
use Rattle.pp_deck.specs.DeckMeaning.{LoadedDeck}

-- whether processor n is in use: the deck names it, or dead start had it wait for its program
abbrev pub is_in_use : LoadedDeck → ℕ → Bool
is_in_use deck n = is_named deck.named n || is_opened n deck.machine

-- the processors in use, in the order of the barrel
abbrev pub in_use : LoadedDeck → List Bool
in_use deck = each_processor (is_in_use deck)
