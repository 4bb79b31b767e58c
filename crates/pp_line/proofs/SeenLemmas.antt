-- The numbers seen, by channel, and the greater ones of two lines.
use Rattle.std.proofs.Common.{◌≡◌, ℕ, zero, suc, ◌<◌, ◌≤◌, max, List, [], ◌∷◌, length, get_or, refl, sym, ◌∙◌, arith}
use Rattle.std.proofs.lemmas.List.{ext_get_or}
use Rattle.pp_line.specs.declared.entry.Entry.{Entry}
use Rattle.pp_line.specs.LineView.{greater_of_each}
use Rattle.pp_line.specs.LineLog.{IsWithin}

-- what lies within the numbers seen lies within greater ones
pub within_more : (xs ys : List ℕ) → ((d : ℕ) → get_or xs d 0 ≤ get_or ys d 0) → (log : List Entry) → IsWithin xs log → IsWithin ys log
within_more xs ys more log p = grind arith

-- the greater number for each channel
pub greater_at : (xs ys : List ℕ) → length xs ≡ length ys → (k : ℕ) → get_or (greater_of_each xs ys) k 0 ≡ max (get_or xs k 0) (get_or ys k 0)
greater_at [] [] same k = omega arith
greater_at [] (y ∷ ys) same k = absurd (omega arith)
greater_at (x ∷ xs) [] same k = absurd (omega arith)
greater_at (x ∷ xs) (y ∷ ys) same zero = refl
greater_at (x ∷ xs) (y ∷ ys) same (suc k) = greater_at xs ys (omega arith) k

pub greater_left : (xs ys : List ℕ) (d : ℕ) → length xs ≡ length ys → get_or xs d 0 ≤ get_or (greater_of_each xs ys) d 0
greater_left xs ys d e = omega (arith, greater_at xs ys e d)

pub greater_right : (xs ys : List ℕ) (d : ℕ) → length xs ≡ length ys → get_or ys d 0 ≤ get_or (greater_of_each xs ys) d 0
greater_right xs ys d e = omega (arith, greater_at xs ys e d)

pub length-greater : (xs ys : List ℕ) → length xs ≡ length ys → length (greater_of_each xs ys) ≡ length xs
length-greater [] ys e = refl
length-greater (x ∷ xs) [] e = absurd (omega arith)
length-greater (x ∷ xs) (y ∷ ys) e = let r = length-greater xs ys (omega arith) in omega arith

pub greater_is : (xs ys zs : List ℕ) → length xs ≡ length ys → length zs ≡ length xs → ((k : ℕ) → k < length zs → get_or zs k 0 ≡ max (get_or xs k 0) (get_or ys k 0)) → zs ≡ greater_of_each xs ys
greater_is xs ys zs same each numbers =
    ext_get_or 0 zs (greater_of_each xs ys) (each ∙ sym (length-greater xs ys same)) (λ k inside. numbers k inside ∙ sym (greater_at xs ys same k))
