-- Numbers in the fields of a deck.
use Rattle.std.specs.Prelude.{ℕ, Result}
use Rattle.std.specs.Option.{ok_or}
use Rattle.pp_word.specs.Numeral.{numeral}
use Rattle.pp_deck.specs.DeckText.{Field}
use Rattle.pp_deck.specs.declared.flaw.Flaw.{Flaw}

-- the number in a field: at least one octal digit, and at most `most`
unfoldable pub number : ℕ → Field → Result ℕ Flaw
number most field = ok_or (numeral 8 most field) Flaw.BadDigits
