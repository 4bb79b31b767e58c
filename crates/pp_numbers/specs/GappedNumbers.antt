-- A numbering with a gap: `half` numbers from 0 on, then `gap` that name nothing, then `half` more;
-- and the place of each in a list. So channels and processors are numbered, again from 20 (octal).
use Rattle.std.proofs.Common.{arith}
use Rattle.std.specs.Prelude.{◌≡◌, ℕ, ◌+◌, ◌-◌, ◌<◌, ◌≤◌, ◌&&◌, ◌||◌, Bool, IsTrue, nat_lt, nat_le, if◌then◌else◌}

unfoldable pub is_number : (half gap : ℕ) → ℕ → Bool
is_number half gap number =
    nat_lt number half || (nat_le (half + gap) number && nat_lt number ((half + gap) + half))

-- the place of the one with this number; past the end if there is none
unfoldable pub index_of : (half gap : ℕ) → ℕ → ℕ
index_of half gap number = if nat_lt number half then number
    else if nat_lt number (half + gap) then half + half else number - gap

-- the number of the one at a place
unfoldable pub number_of : (half gap : ℕ) → ℕ → ℕ
number_of half gap place = if nat_lt place half then place else place + gap

-- what proofs know of numbers and their places
pub record ArePlaces (half : ℕ) (count : ℕ) (names : ℕ → Bool) (index number : ℕ → ℕ) : Type 0 where
  -- a number gives its place, which is one of the list
  pub place_again : (place : ℕ) → IsTrue (names (number place)) → index (number place) ≡ place
  pub place_below : (n : ℕ) → IsTrue (names n) → index n < count
  -- a number names one exactly if its place is one of the list
  pub named_below : (n : ℕ) → index n < count → IsTrue (names n)
  pub place_past : (n : ℕ) → (IsTrue (names n) → ⊥) → count ≤ index n
  pub one_place : (m n : ℕ) → IsTrue (names m) → index n ≡ index m → n ≡ m
  -- the number of a place names the one there
  pub place_of_number : (place : ℕ) → place < count → index (number place) ≡ place
  pub number_named : (place : ℕ) → place < count → IsTrue (names (number place))
  pub number_of_place : (n : ℕ) → IsTrue (names n) → number (index n) ≡ n
  -- the first half are at the first places
  pub named_low : (n : ℕ) → n < half → IsTrue (names n)
  pub low_number : (n : ℕ) → index n < half → n < half
  pub low_place : (n : ℕ) → n < half → index n < half

-- these numbers and their places are such (models cite it)
pub places : (half gap : ℕ)
    → ArePlaces half (half + half) (is_number half gap) (index_of half gap) (number_of half gap)
unfolding is_number index_of number_of
places half gap = record {
  place_again = λ place names. grind (arith, names);
  place_below = λ n names. grind (arith, names);
  named_below = λ n below. grind (arith, below);
  place_past = λ n none. grind (arith, none);
  one_place = λ m n names same. grind (arith, names, same);
  place_of_number = λ place below. grind (arith, below);
  number_named = λ place below. grind (arith, below);
  number_of_place = λ n names. grind (arith, names);
  named_low = λ n low. grind (arith, low);
  low_number = λ n below. grind (arith, below);
  low_place = λ n low. grind (arith, low);
}
