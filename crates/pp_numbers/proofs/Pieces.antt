-- A list of numbers cut where a test passes, piece by piece.
use Rattle.std.proofs.Common.{◌≡◌, ℕ, ◌+◌, ◌≤◌, Bool, true, false, cond, List, ◌∷◌, [], length, take, drop, Some, None, arith}
use Rattle.std.specs.Prelude.{position, nat_lt}
use Rattle.std.specs.List.{position_or_len, slice_split}
use Rattle.std.proofs.lemmas.Bool.{ltb-false}
use Rattle.std.proofs.lemmas.List.Quantifiers.{position-Some}
use Rattle.std.proofs.lemmas.List.Splits.{slice_split_first, slice_split_none}
use Rattle.std.proofs.lemmas.List.Sums.{fails_before_first}

-- where the first number that passes stands
pub at_position : (p : ℕ → Bool) (xs : List ℕ) (b : Bool) (i : ℕ)
    → cond b (Some (position_or_len p xs)) None ≡ Some i → i ≡ position_or_len p xs
at_position p xs true i e = cc
at_position p xs false i e = absurd (cc)

-- where none passes, the test holds nowhere
pub no_position : (p : ℕ → Bool) (xs : List ℕ) (b : Bool)
    → nat_lt (position_or_len p xs) (length xs) ≡ b
    → cond b (Some (position_or_len p xs)) None ≡ None → length xs ≤ position_or_len p xs
no_position p xs true e n = absurd (cc)
no_position p xs false e n = ltb-false (position_or_len p xs) (length xs) e

-- the first piece ends there
pub split_first : (p : ℕ → Bool) (xs rest : List ℕ) (i : ℕ)
    → Some i ≡ position p xs → rest ≡ drop (i + 1) xs
    → slice_split p xs ≡ take i xs ∷ slice_split p rest
split_first p xs rest i e h = grind (arith, at_position, position-Some, slice_split_first)

-- a list in which none passes is one piece
pub split_last : (p : ℕ → Bool) (xs : List ℕ) → None ≡ position p xs
    → slice_split p xs ≡ xs ∷ []
split_last p xs e = grind (arith, no_position, slice_split_none, fails_before_first)
