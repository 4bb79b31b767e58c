-- Lists read by place, joined end to end and added up, where one place is written.
use Rattle.std.proofs.Common.{◌≡◌, ℕ, zero, suc, ◌+◌, ◌<◌, ◌≤◌, Bool, cond, List, [], ◌∷◌, ◌++◌, length, take, get_or, set, replicate, refl, sym, ap, ◌∙◌, subst, arith}
use mathlib.Core.Option.{some, some-injective, some-ne-none}
use lib.ListN.{get_elem?}
use Rattle.std.specs.List.{All, flat_map, sum_by, count_by}
use Rattle.std.proofs.lemmas.List.{take_at, drop_at, take_more, append-nil}
use Rattle.std.proofs.lemmas.List.Concat.{flat_map-append}
use Rattle.std.proofs.lemmas.List.Elements.{All-head, All-tail, All-append, All-take, All-drop}
use Rattle.std.proofs.lemmas.List.Sums.{sum_by-cons, sum_by-append, sum_by-set, get_or-le-sum_by}

module _ {A : Type 0} where
  pub same_everywhere : (n i : ℕ) (x : A) → get_or (replicate n x) i x ≡ x
  same_everywhere zero i x = refl
  same_everywhere (suc n) zero x = refl
  same_everywhere (suc n) (suc i) x = same_everywhere n i x

  pub read_at : (xs : List A) (i : ℕ) (x : A) → get_elem? xs i ≡ some x → (i < length xs) × (get_or xs i x ≡ x)
  read_at [] i x e = absurd (some-ne-none x (sym e))
  read_at (y ∷ ys) zero x e = (omega arith, some-injective y x e)
  read_at (y ∷ ys) (suc i) x e = let r = read_at ys i x e in (omega arith, r.1)

  pub All-read : (P : A → Type 0) (xs : List A) (i : ℕ) (x : A) → All P xs → get_elem? xs i ≡ some x → P x
  All-read P xs i x p e = let r = read_at xs i x e in subst P r.1 (p i x r.0)

  pub read_written : (xs : List A) (i : ℕ) (x y : A) → get_elem? xs i ≡ some x → get_elem? (set xs i y) i ≡ some y
  read_written [] i x y e = absurd (some-ne-none x (sym e))
  read_written (z ∷ zs) zero x y e = refl
  read_written (z ∷ zs) (suc i) x y e = read_written zs i x y e

  pub All-front : (P : A → Type 0) (xs ys : List A) → All P (xs ++ ys) → All P xs
  All-front P xs ys p = subst (All P) (take_at xs ys (length xs) refl) (All-take P (length xs) (xs ++ ys) p)

  pub All-back : (P : A → Type 0) (xs ys : List A) → All P (xs ++ ys) → All P ys
  All-back P xs ys p = subst (All P) (drop_at xs ys (length xs) refl) (All-drop P (length xs) (xs ++ ys) p)

module _ {X A : Type 0} (f : X → List A) where
  pub flat_map-set_same : (xs : List X) (i : ℕ) (v w : X) → get_elem? xs i ≡ some v → f w ≡ f v → flat_map f (set xs i w) ≡ flat_map f xs
  flat_map-set_same [] i v w e s = refl
  flat_map-set_same (x ∷ xs) zero v w e s = ap (λ ys. ys ++ flat_map f xs) (s ∙ ap f (sym (some-injective x v e)))
  flat_map-set_same (x ∷ xs) (suc i) v w e s = ap (λ ys. f x ++ ys) (flat_map-set_same xs i v w e s)

  -- what holds of each element of all parts
  pub All-part : (P : A → Type 0) (xs : List X) (i : ℕ) (v : X) → All P (flat_map f xs) → get_elem? xs i ≡ some v → All P (f v)
  All-part P [] i v p e = absurd (some-ne-none v (sym e))
  All-part P (x ∷ xs) zero v p e = subst (λ (t : X). All P (f t)) (some-injective x v e) (All-front P (f x) (flat_map f xs) p)
  All-part P (x ∷ xs) (suc i) v p e = All-part P xs i v (All-back P (f x) (flat_map f xs) p) e

  pub All-parts_set : (P : A → Type 0) (xs : List X) (i : ℕ) (w : X) → All P (flat_map f xs) → All P (f w) → All P (flat_map f (set xs i w))
  All-parts_set P [] i w p q = p
  All-parts_set P (x ∷ xs) zero w p q = All-append P (f w) (flat_map f xs) q (All-back P (f x) (flat_map f xs) p)
  All-parts_set P (x ∷ xs) (suc i) w p q =
      All-append P (f x) (flat_map f (set xs i w)) (All-front P (f x) (flat_map f xs) p) (All-parts_set P xs i w (All-back P (f x) (flat_map f xs) p) q)

  pub count_by-parts : (p : A → Bool) (xs : List X) → count_by p (flat_map f xs) ≡ sum_by (λ x. count_by p (f x)) xs
  count_by-parts p [] = refl
  count_by-parts p (x ∷ xs) =
      let both = sum_by-append (λ (a : A). cond (p a) 1 0) (f x) (flat_map f xs) in
      let rest = count_by-parts p xs in
      let sum = sum_by-cons (λ (y : X). count_by p (f y)) x xs in
      omega arith

module _ {X : Type 0} (f : X → ℕ) where
  pub sum_by-write : (xs : List X) (i : ℕ) (v w : X) → get_elem? xs i ≡ some v → sum_by f (set xs i w) + f v ≡ sum_by f xs + f w
  sum_by-write xs i v w e =
      let r = read_at xs i v e in
      subst (λ (t : X). sum_by f (set xs i w) + f t ≡ sum_by f xs + f w) r.1 (sum_by-set f xs i w v r.0)

  pub read-le-sum_by : (xs : List X) (i : ℕ) (v : X) → get_elem? xs i ≡ some v → f v ≤ sum_by f xs
  read-le-sum_by xs i v e =
      let r = read_at xs i v e in
      subst (λ (t : X). f t ≤ sum_by f xs) r.1 (get_or-le-sum_by f xs i v r.0)

module _ {X : Type 0} (f g : X → ℕ) where
  abbrev Needs : X → Type 0
  Needs x = g x ≡ 0 → f x ≡ 0

  sum_by-none : (xs : List X) → sum_by g xs ≡ 0 → All Needs xs → sum_by f xs ≡ 0
  sum_by-none [] z needs = refl
  sum_by-none (x ∷ xs) z needs =
      let a = sum_by-cons g x xs in
      let b = sum_by-cons f x xs in
      let here : f x ≡ 0 = All-head Needs x xs needs (omega arith) in
      let rest : sum_by f xs ≡ 0 = sum_by-none xs (omega arith) (All-tail Needs x xs needs) in
      omega arith

  -- where all of g stands at one place, and f is nothing where g is, all of f stands there
  pub sum_by-sole : (xs : List X) (i : ℕ) (v : X) → get_elem? xs i ≡ some v → sum_by g xs ≡ g v → All Needs xs → sum_by f xs ≡ f v
  sum_by-sole [] i v e all needs = absurd (some-ne-none v (sym e))
  sum_by-sole (x ∷ xs) zero v e all needs =
      let a = sum_by-cons g x xs in
      let b = sum_by-cons f x xs in
      let p : g x ≡ g v = ap g (some-injective x v e) in
      let q : f x ≡ f v = ap f (some-injective x v e) in
      let rest : sum_by f xs ≡ 0 = sum_by-none xs (omega arith) (All-tail Needs x xs needs) in
      omega arith
  sum_by-sole (x ∷ xs) (suc i) v e all needs =
      let a = sum_by-cons g x xs in
      let b = sum_by-cons f x xs in
      let least : g v ≤ sum_by g xs = read-le-sum_by g xs i v e in
      let here : f x ≡ 0 = All-head Needs x xs needs (omega arith) in
      let rest : sum_by f xs ≡ f v = sum_by-sole xs i v e (omega arith) (All-tail Needs x xs needs) in
      omega arith

-- one part more
pub flat_map_more : {X A : Type 0} (f : X → List A) (xs : List X) (i : ℕ) (x : X) → i < length xs → x ≡ get_or xs i x → flat_map f (take (i + 1) xs) ≡ flat_map f (take i xs) ++ f x
flat_map_more f xs i x below is =
    ap (flat_map f) (take_more xs i x below ∙ ap (λ y. take i xs ++ y ∷ []) (sym is))
    ∙ (flat_map-append f (take i xs) (x ∷ []) ∙ ap (λ l. flat_map f (take i xs) ++ l) (append-nil (f x)))
