-- The last element of a list, and what comes after the last element that passes a test, with one
-- more element.
use Rattle.std.proofs.Common.{◌≡◌, ◌+◌, ◌-◌, Bool, true, false, cond, List, [], ◌∷◌, ◌++◌, length, Option, Some, None, refl, ap, ◌∙◌, arith}
use Rattle.std.specs.List.{slice_get, last_or, after_last, suffix_len, prefix_len}
use Rattle.std.proofs.lemmas.List.{reverse-append, drop-append-le, drop_all, length_push}

pub last_or-push : {A : Type 0} (o : Option A) (xs : List A) (x : A)
    → last_or o (xs ++ x ∷ []) ≡ Some x
last_or-push o [] x = refl
last_or-push o (y ∷ ys) x = last_or-push (Some y) ys x

-- the last element by its place
last_or_at_from : {A : Type 0} (x : A) (xs : List A)
    → slice_get (x ∷ xs) (length xs) ≡ last_or (Some x) xs
last_or_at_from x [] = refl
last_or_at_from x (y ∷ ys) = last_or_at_from y ys

pub last_or_at : {A : Type 0} (xs : List A) → slice_get xs (length xs - 1) ≡ last_or None xs
last_or_at [] = refl
last_or_at (x ∷ xs) = ap (slice_get (x ∷ xs)) (omega arith) ∙ last_or_at_from x xs

suffix_len-push : {A : Type 0} (q : A → Bool) (xs : List A) (x : A)
    → suffix_len q (xs ++ x ∷ []) ≡ cond (q x) (1 + suffix_len q xs) 0
suffix_len-push q xs x = ap (prefix_len q) (reverse-append xs (x ∷ []))

pub after_last-found : {A : Type 0} (p : A → Bool) (xs : List A) (x : A) → p x ≡ true
    → after_last p (xs ++ x ∷ []) ≡ []
after_last-found {A} p xs x e = grind (arith, suffix_len-push, drop_all)

pub after_last-push : {A : Type 0} (p : A → Bool) (xs : List A) (x : A) → p x ≡ false
    → after_last p (xs ++ x ∷ []) ≡ after_last p xs ++ x ∷ []
after_last-push {A} p xs x e = grind (arith, suffix_len-push, length_push, drop-append-le)
