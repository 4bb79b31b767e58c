-- Lists that stand in others.
use Rattle.std.specs.Prelude.{◌≡◌, List, [], ◌∷◌, ◌⊎◌}

-- The first list stands in the second: in its order, each item at a place of its own.
abbrev pub IsSubsequence : {X : Type 0} → List X → List X → Type 0
IsSubsequence [] ys = Unit {0}
IsSubsequence (x ∷ xs) [] = ⊥
IsSubsequence (x ∷ xs) (y ∷ ys) = ((x ≡ y) × IsSubsequence xs ys) ⊎ IsSubsequence (x ∷ xs) ys
