-- Tables by their length and their entries.
use Rattle.std.proofs.Common.{◌≡◌, ℕ, zero, suc, ◌+◌, ◌<◌, cond, eqb, List, ◌∷◌, length, map, get_or, set, replicate, refl, sym, ap, ◌∙◌, arith}
use Rattle.std.specs.List.{range_with_len}
use Rattle.std.proofs.lemmas.Bool.{cond-true, cond-false, eq-eqb, ne_eqb, cases_eq}
use Rattle.std.proofs.lemmas.List.{ext_get_or, length-set, get_or-set_same, get_or-set_other}
use Rattle.std.proofs.lemmas.List.FromFn.{length-map-range_with_len, get_or-map-range_with_len}
use Rattle.pp_numbers.specs.Tables.{tabulate}

pub length-tabulate : {A : Type 0} (n : ℕ) (f : ℕ → A) → length (tabulate n f) ≡ n
unfolding tabulate
length-tabulate n f = length-map-range_with_len f 0 n

pub get_or-tabulate : {A : Type 0} (n : ℕ) (f : ℕ → A) (i : ℕ) (d : A) → i < n
    → get_or (tabulate n f) i d ≡ f i
unfolding tabulate
get_or-tabulate n f i d lt = get_or-map-range_with_len f 0 n i i d lt (omega arith)

-- a list is a table if it has its length and its entries
pub tabulate_is : {A : Type 0} (d : A) (xs : List A) (n : ℕ) (f : ℕ → A) → length xs ≡ n
    → ((i : ℕ) → i < n → get_or xs i d ≡ f i) → xs ≡ tabulate n f
tabulate_is d xs n f long same =
    ext_get_or d xs (tabulate n f) (long ∙ sym (length-tabulate n f))
    (λ i lt. let below : i < n = omega (arith, lt, long) in same i below
    ∙ sym (get_or-tabulate n f i d below))

pub tabulate_same : {A : Type 0} (d : A) (n : ℕ) (f g : ℕ → A) → ((i : ℕ) → i < n → f i ≡ g i)
    → tabulate n f ≡ tabulate n g
tabulate_same d n f g same =
    tabulate_is d (tabulate n f) n g (length-tabulate n f)
    (λ i lt. get_or-tabulate n f i d lt ∙ same i lt)

pub tabulate_const : {A : Type 0} (n : ℕ) (f : ℕ → A) (x : A) → ((i : ℕ) → f i ≡ x)
    → tabulate n f ≡ replicate n x
unfolding tabulate
tabulate_const {A} n f x same = const_from 0 n
  where
    const_from : (a n : ℕ) → map f (range_with_len a n) ≡ replicate n x
    const_from a zero = refl
    const_from a (suc n) =
        ap (λ (y : A). y ∷ map f (range_with_len (a + 1) n)) (same a)
        ∙ ap (λ (ys : List A). x ∷ ys) (const_from (a + 1) n)

set_entry : {A : Type 0} (d : A) (n : ℕ) (f : ℕ → A) (k : ℕ) (x : A) (i : ℕ) → i < n
    → get_or (set (tabulate n f) k x) i d ≡ cond (eqb i k) x (f i)
set_entry d n f k x i lt = grind (arith, cases_eq, get_or-set_same, length-tabulate, cond-true, eq-eqb, get_or-set_other, get_or-tabulate, cond-false, ne_eqb)

-- a table with one entry set
pub set-tabulate : {A : Type 0} (d : A) (n : ℕ) (f : ℕ → A) (k : ℕ) (x : A)
    → set (tabulate n f) k x ≡ tabulate n (λ i. cond (eqb i k) x (f i))
set-tabulate d n f k x =
    tabulate_is d (set (tabulate n f) k x) n (λ i. cond (eqb i k) x (f i))
    (length-set (tabulate n f) k x ∙ length-tabulate n f) (set_entry d n f k x)
