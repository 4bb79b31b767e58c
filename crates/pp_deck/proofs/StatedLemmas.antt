-- The size of central memory that a deck states.
use Rattle.std.proofs.Common.{◌≡◌, ℕ, zero, suc, ◌<◌, Bool, true, false, cond, List, [], ◌∷◌, length, take, get_or, Some, Result, ap, arith, lt-ltb}
use Rattle.std.specs.Prelude.{find, ◌||◌}
use Rattle.std.specs.List.{list_any}
use Rattle.std.specs.Result.{result_unwrap_or}
use Rattle.pp_deck.specs.DeckLine.{central_line, central_size, keyword_of}
use Rattle.pp_deck.specs.DeckMeaning.{has_fields, size_of}
use Rattle.pp_deck.specs.DeckText.{Fields}
use Rattle.pp_deck.specs.Reading.{IsStated, on_read}
use Rattle.pp_deck.specs.declared.{flaw.Flaw.Flaw}
use Rattle.pp_deck.specs.declared.keyword.Keyword.TheVariants as keyword

pub size_is : (stated : Result ℕ Flaw) (lines : List Fields) → IsStated stated (find has_fields lines) → result_unwrap_or stated 0o10000 ≡ size_of lines
unfolding size_of
size_is stated lines is = grind arith

first_with : (lines : List Fields) (k : ℕ) → list_any has_fields (take k lines) ≡ false → k < length lines → has_fields (get_or lines k []) ≡ true → find has_fields lines ≡ Some (get_or lines k [])
first_with [] k none lt some = absurd (omega (arith, lt))
first_with (line ∷ more) zero none lt some = ap (λ (b : Bool). cond b (Some line) (find has_fields more)) some
first_with (line ∷ more) (suc k) none lt some = by_test (has_fields line) none (λ rest. first_with more k rest (omega (arith, lt)) some)
  where
    by_test : (b : Bool) → (b || list_any has_fields (take k more)) ≡ false → (list_any has_fields (take k more) ≡ false → find has_fields more ≡ Some (get_or more k [])) → cond b (Some line) (find has_fields more) ≡ Some (get_or more k [])
    by_test b none rest = grind arith

-- the line that it is read off
pub stated_here : (stated : Result ℕ Flaw) (lines : List Fields) (k : ℕ) (first : List ℕ) (fields : Fields) → IsStated stated (find has_fields lines) → list_any has_fields (take k lines) ≡ false → k < length lines
    → get_or lines k [] ≡ first ∷ fields → keyword_of first ≡ keyword.Central → central_line fields ≡ on_read central_size stated
stated_here stated lines k first fields is none lt here central = grind (arith, first_with, lt-ltb)
