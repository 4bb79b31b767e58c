-- Lists of numbers, one of which is written.
use Rattle.std.proofs.Common.{◌≡◌, ℕ, zero, suc, ◌≤◌, List, [], ◌∷◌, get_or, set, refl, ap, arith}

-- what holds of each, and of the new one, holds after
pub set_at_each : (P : ℕ → Type 0) (xs : List ℕ) (c n d : ℕ) → P (get_or xs d 0) → (d ≡ c → P n)
    → P (get_or (set xs c n) d 0)
set_at_each P [] c n d old new = old
set_at_each P (x ∷ xs) zero n zero old new = new refl
set_at_each P (x ∷ xs) zero n (suc d) old new = old
set_at_each P (x ∷ xs) (suc c) n zero old new = old
set_at_each P (x ∷ xs) (suc c) n (suc d) old new = set_at_each P xs c n d old (λ e. new (ap suc e))

-- none falls if the new one is no less
pub set_raises : (xs : List ℕ) (c n d : ℕ) → get_or xs c 0 ≤ n
    → get_or xs d 0 ≤ get_or (set xs c n) d 0
set_raises [] c n d l = omega arith
set_raises (x ∷ xs) zero n zero l = l
set_raises (x ∷ xs) zero n (suc d) l = omega arith
set_raises (x ∷ xs) (suc c) n zero l = omega arith
set_raises (x ∷ xs) (suc c) n (suc d) l = set_raises xs c n d l
