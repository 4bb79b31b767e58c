-- Where a list is cut.
use Rattle.std.proofs.Common.{◌≡◌, Bool, true, false, cond, List, [], ◌∷◌, ◌++◌, map, refl, ap, arith}
use Rattle.std.specs.Prelude.{fold}
use Rattle.std.specs.List.{flat_map, onto_first}
use Rattle.pp_sessions.specs.OpenStretch.{IsUncut}
use Rattle.pp_sessions.specs.Stretches.{cut_between}

-- the last of a list that is not empty
abbrev pub last_in : {X : Type 0} → X → List X → X
last_in x xs = fold (λ before y. y) x xs

-- it is cut before what follows, if anything does
abbrev pub IsCutBefore : {X : Type 0} → (X → X → Bool) → X → List X → Type 0
IsCutBefore test last [] = Unit {0}
IsCutBefore test last (next ∷ xs) = test last next ≡ true

-- the first part, and then the others
pub cut-append : {X : Type 0} (test : X → X → Bool) (x : X) (xs rest : List X) → IsUncut test x xs → IsCutBefore test (last_in x xs) rest → cut_between test ((x ∷ xs) ++ rest) ≡ (x ∷ xs) ∷ cut_between test rest
cut-append test x [] [] whole cut = refl
cut-append test x [] (next ∷ rest) whole cut = ap (λ (b : Bool). cond b ((x ∷ []) ∷ cut_between test (next ∷ rest)) (onto_first x (cut_between test (next ∷ rest)))) cut
cut-append test x (next ∷ xs) rest whole cut = grind (arith, cut-append test next xs rest whole.1 cut)

-- one element more
pub uncut-push : {X : Type 0} (test : X → X → Bool) (x : X) (xs : List X) (y : X) → IsUncut test x xs → test (last_in x xs) y ≡ false → IsUncut test x (xs ++ y ∷ [])
uncut-push test x [] y whole apart = (apart, tt)
uncut-push test x (next ∷ xs) y whole apart = (whole.0, uncut-push test next xs y whole.1 apart)

pub cut_together : {X : Type 0} (test : X → X → Bool) (xs : List X) → flat_map (λ part. part) (cut_between test xs) ≡ xs
cut_together test [] = refl
cut_together test (x ∷ []) = refl
cut_together test (x ∷ next ∷ xs) = grind (arith, cut_together test (next ∷ xs))

pub cut-map : {X Y : Type 0} (f : X → Y) (test : Y → Y → Bool) (xs : List X) → map (map f) (cut_between (λ x y. test (f x) (f y)) xs) ≡ cut_between test (map f xs)
cut-map f test [] = refl
cut-map f test (x ∷ []) = refl
cut-map f test (x ∷ next ∷ xs) = grind (arith, cut-map f test (next ∷ xs))
