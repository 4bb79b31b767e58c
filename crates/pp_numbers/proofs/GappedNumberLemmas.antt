-- Numbers with a gap.
use Rattle.std.proofs.Common.{◌≡◌, ℕ, ◌+◌, ◌<◌, ◌≤◌, List, [], ◌++◌, arith}
use Rattle.std.specs.Prelude.{IsTrue}
use Rattle.std.proofs.lemmas.Grind.{flat_map-append}
use Rattle.std.specs.List.{flat_map, range_with_len}
use Rattle.pp_numbers.proofs.GrowingLists.{flat_map_parts}
use Rattle.pp_numbers.specs.GappedNumbers.{is_number}

-- a walk over all is one over all numbers below a bound
in_gap : (half gap n : ℕ) → half ≤ n → n < half + gap → IsTrue (is_number half gap n) → ⊥
unfolding is_number
in_gap half gap n past below names = grind (arith, past, below, names)

past_all : (half gap n : ℕ) → (half + gap) + half ≤ n → IsTrue (is_number half gap n) → ⊥
unfolding is_number
past_all half gap n past names = grind (arith, past, names)

pub over_numbers : {X : Type 0} (half gap past : ℕ) (f : ℕ → List X)
    → ((n : ℕ) → (IsTrue (is_number half gap n) → ⊥) → f n ≡ [])
    → flat_map f (range_with_len 0 half ++ range_with_len (half + gap) half)
    ≡ flat_map f (range_with_len 0 (half + (gap + (half + past))))
over_numbers half gap past f none = grind (arith, flat_map-append, flat_map_parts, in_gap, past_all)
