-- Lists that grow at the end, and their last elements.
use Rattle.std.proofs.Common.{◌≡◌, ℕ, zero, suc, ◌+◌, ◌<◌, ◌≤◌, List, [], ◌∷◌, ◌++◌, Option, Some, None, refl, sym, ap, ◌∙◌, arith, add-zero}
use Rattle.std.specs.Prelude.{filter_map, option_to_list}
use Rattle.std.specs.List.{range_with_len, cons_option, flat_map, last_or}
use Rattle.std.proofs.lemmas.Grind.{flat_map-append}
use Rattle.std.proofs.lemmas.List.{append-nil, map-append}
use Rattle.std.proofs.lemmas.List.Elements.{filter_map-append}
use Rattle.pp_numbers.proofs.LastElements.{last_or-push}
use Rattle.pp_numbers.specs.Tables.{tabulate}

pub range_more : (a n : ℕ) → range_with_len a (n + 1) ≡ range_with_len a n ++ (a + n) ∷ []
range_more a n = ap (range_with_len a) (one n) ∙ from a n
  where
    one : (n : ℕ) → n + 1 ≡ suc n
    one n = omega arith

    next : (a n : ℕ) → (a + 1) + n ≡ a + suc n
    next a n = omega arith

    from : (a n : ℕ) → range_with_len a (suc n) ≡ range_with_len a n ++ (a + n) ∷ []
    from a zero = ap (λ (k : ℕ). k ∷ []) (sym (add-zero a))
    from a (suc n) =
        ap (λ (ks : List ℕ). a ∷ ks)
        (from (a + 1) n ∙ ap (λ (k : ℕ). range_with_len (a + 1) n ++ k ∷ []) (next a n))

-- numbers, and those after them
pub range_append : (a m n : ℕ)
    → range_with_len a (m + n) ≡ range_with_len a m ++ range_with_len (a + m) n
range_append a zero n = grind (arith, add-zero)
range_append a (suc m) n =
    ap (range_with_len a) (suc_more m n)
    ∙ ap (λ (ks : List ℕ). a ∷ ks)
    (range_append (a + 1) m n
    ∙ ap (λ (k : ℕ). range_with_len (a + 1) m ++ range_with_len k n) (next a m))
  where
    suc_more : (m n : ℕ) → suc m + n ≡ suc (m + n)
    suc_more m n = omega arith

    next : (a m : ℕ) → (a + 1) + m ≡ a + suc m
    next a m = omega arith

-- nothing comes of numbers of which none gives anything
pub flat_map_none : {X : Type 0} (f : ℕ → List X) (a n : ℕ)
    → ((k : ℕ) → a ≤ k → k < a + n → f k ≡ []) → flat_map f (range_with_len a n) ≡ []
flat_map_none f a zero none = refl
flat_map_none {X} f a (suc n) none =
    ap (λ (xs : List X). xs ++ flat_map f (range_with_len (a + 1) n))
    (none a (omega arith) (omega arith))
    ∙ flat_map_none f (a + 1) n (λ k low high. none k (omega (arith, low)) (omega (arith, high)))

-- what comes of all numbers below a bound, where only two ranges of them give anything
pub flat_map_parts : {X : Type 0} (f : ℕ → List X) (first gap second past : ℕ)
    → ((k : ℕ) → first ≤ k → k < first + gap → f k ≡ [])
    → ((k : ℕ) → (first + gap) + second ≤ k → f k ≡ [])
    → flat_map f (range_with_len 0 first) ++ flat_map f (range_with_len (first + gap) second)
    ≡ flat_map f (range_with_len 0 (first + (gap + (second + past))))
flat_map_parts {X} f first gap second past none_between none_past = sym (
    ap (flat_map f) (range_append 0 first (gap + (second + past))
    ∙ ap (λ (k : ℕ). range_with_len 0 first ++ range_with_len k (gap + (second + past)))
    (from_zero first))
    ∙ flat_map-append f (range_with_len 0 first) (range_with_len first (gap + (second + past)))
    ∙ ap (λ (xs : List X). flat_map f (range_with_len 0 first) ++ xs) upper)
  where
    from_zero : (n : ℕ) → 0 + n ≡ n
    from_zero n = omega arith

    upper : flat_map f (range_with_len first (gap + (second + past)))
        ≡ flat_map f (range_with_len (first + gap) second)
    upper =
        ap (flat_map f) (range_append first gap (second + past))
        ∙ flat_map-append f (range_with_len first gap)
        (range_with_len (first + gap) (second + past))
        ∙ ap (λ (xs : List X). xs ++ flat_map f (range_with_len (first + gap) (second + past)))
        (flat_map_none f first gap none_between)
        ∙ ap (flat_map f) (range_append (first + gap) second past)
        ∙ flat_map-append f (range_with_len (first + gap) second)
        (range_with_len ((first + gap) + second) past)
        ∙ ap (λ (xs : List X). flat_map f (range_with_len (first + gap) second) ++ xs)
        (flat_map_none f ((first + gap) + second) past (λ k low high. none_past k low))
        ∙ append-nil (flat_map f (range_with_len (first + gap) second))

-- a table, and one entry more
pub tabulate_more : {A : Type 0} (n : ℕ) (f : ℕ → A) → tabulate (n + 1) f ≡ tabulate n f ++ f n ∷ []
unfolding tabulate
tabulate_more {A} n f = grind (arith, range_more, map-append)

pub filter_map_one : {A : Type 0} (o : Option A) → cons_option o [] ≡ option_to_list o
filter_map_one None = refl
filter_map_one (Some x) = refl

pub filter_map_more : {X A : Type 0} (f : X → Option A) (xs : List X) (x : X)
    → filter_map f (xs ++ x ∷ []) ≡ filter_map f xs ++ option_to_list (f x)
filter_map_more {X} {A} f xs x = grind (arith, filter_map-append, filter_map_one)

-- two tests that agree on each number
pub filter_map_same : {A : Type 0} (f g : ℕ → Option A) (a n : ℕ)
    → ((k : ℕ) → a ≤ k → k < a + n → f k ≡ g k)
    → filter_map f (range_with_len a n) ≡ filter_map g (range_with_len a n)
filter_map_same {A} f g a zero same = refl
filter_map_same {A} f g a (suc n) same =
    ap (λ (o : Option A). cons_option o (filter_map f (range_with_len (a + 1) n)))
    (same a (omega arith) (omega arith))
    ∙ ap (cons_option (g a))
    (filter_map_same f g (a + 1) n (λ k le lt. same k (omega (arith, le)) (omega (arith, lt))))

-- ---- the last element

abbrev pub or_else : {A : Type 0} → Option A → Option A → Option A
or_else (Some x) o = Some x
or_else None o = o

abbrev pub last_of : {A : Type 0} → List A → Option A
last_of xs = last_or None xs

-- the last of a list with perhaps one more element
pub last_of_more : {A : Type 0} (xs : List A) (o : Option A)
    → last_of (xs ++ option_to_list o) ≡ or_else o (last_of xs)
last_of_more xs None = ap last_of (append-nil xs)
last_of_more xs (Some x) = last_or-push None xs x
