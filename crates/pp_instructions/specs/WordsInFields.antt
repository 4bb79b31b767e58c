-- The words in fields.
use Rattle.std.specs.Prelude.{ℕ, List, map, unwrap_or}
use Rattle.pp_word.specs.Numeral.{numeral}
use Rattle.pp_deck.specs.DeckText.{Field, Fields}

abbrev pub word_in : Field → ℕ
word_in field = unwrap_or (numeral 8 4 field) 0

abbrev pub words_in_fields : Fields → List ℕ
words_in_fields fields = map word_in fields
