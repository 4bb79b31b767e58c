-- Lists of numbers, like `1,5,13`: in one or two octal digits, with a comma between them.
use Rattle.std.specs.Prelude.{◌≡◌, ℕ, ◌==◌, All, Bool, IsSome, List, [], length, Option, None, Some, if◌then◌else◌}
use Rattle.std.specs.List.{filter_map, list_any, slice_split}
use Rattle.std.specs.Option.{option_and_then}
use Rattle.pp_word.specs.Numeral.{numeral}

-- a comma is 44 in ASCII (decimal)
abbrev pub is_comma : ℕ → Bool
is_comma byte = byte == 44

-- the numbers of a list
unfoldable pub numbers_of : List ℕ → List (List ℕ)
numbers_of text = slice_split is_comma text

-- those of a list, if there is one
abbrev pub numbers_in : Option (List ℕ) → List (List ℕ)
numbers_in None = []
numbers_in (Some text) = numbers_of text

-- the number in a text, if it names something
unfoldable pub numbered : (ℕ → Bool) → List ℕ → Option ℕ
numbered names text =
    option_and_then (λ n. if names n then Some n else None) (numeral 8 2 text)

-- whether n is among the numbers in some texts
abbrev pub is_among : (ℕ → Bool) → ℕ → List (List ℕ) → Bool
is_among names n numbers = list_any (λ m. m == n) (filter_map (numbered names) numbers)

-- A text lists the numbers that are flagged, and each names something. A use says which numbers do,
-- how many places the flags have, and how the flag of a number is read.
pub record AreFlagged (names : ℕ → Bool) (places : ℕ) (is_flagged : List Bool → ℕ → Bool)
    (text : List ℕ) (flags : List Bool) : Type 0 where
  pub numbers : All (λ number. IsSome (numbered names number)) (numbers_of text)
  pub each_place : length flags ≡ places
  pub flagged : (n : ℕ) → is_flagged flags n ≡ is_among names n (numbers_of text)
