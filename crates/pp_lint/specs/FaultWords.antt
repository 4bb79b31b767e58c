-- The words for the faults of a deck, with the field at fault.
use Rattle.std.specs.Prelude.{ℕ, Bool, false, List, ◌++◌, codes, if◌then◌else◌}
use Rattle.std.specs.Option.{option_map_or}
use Rattle.pp_word.specs.Numeral.{numeral}
use Rattle.pp_numbers.specs.Profile.{has_processor}
use Rattle.pp_numbers.specs.declared.profile.Profile.TheVariants.{Twenty}
use Rattle.pp_deck.specs.DeckText.{Field}
use Rattle.pp_deck.specs.declared.deck_fault.DeckCode.{DeckCode}

-- whether a machine of twenty has the processor of this number
abbrev pub is_of_twenty : Field → Bool
is_of_twenty field = option_map_or (λ n. has_processor Twenty n) (numeral 8 2 field) false

-- what is said of a fault, at this field
unfoldable pub fault_words : DeckCode → Field → List ℕ
fault_words DeckCode.TooLong field = codes "longer than 1048576 bytes"
fault_words DeckCode.NotAscii field = codes "not ASCII"
fault_words DeckCode.UnknownLine field = codes "no such line here: " ++ field
fault_words DeckCode.BadDigits field = codes "wrong digits: " ++ field
fault_words DeckCode.BadProcessor field = (if is_of_twenty field
    then codes "no such processor without --processors 20: " else codes "no such processor: ")
    ++ field
fault_words DeckCode.NoProcessor field = codes "no PP line before this: " ++ field
fault_words DeckCode.PastEnd field = codes "past place 7777: " ++ field
fault_words DeckCode.CentralRange field = codes "out of the range of central memory: " ++ field
fault_words DeckCode.Memory field = codes "out of memory"
