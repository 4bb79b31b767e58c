-- Lists that stand in others, as lists grow.
use Rattle.std.proofs.Common.{◌≡◌, Bool, true, false, List, [], ◌∷◌, ◌++◌, refl, sym, ap, ◌∙◌, inl, inr}
use Rattle.std.specs.Prelude.{All}
use Rattle.std.specs.List.{filter}
use Rattle.std.proofs.lemmas.List.Elements.{All-head, All-tail}
use Rattle.pp_numbers.specs.Subsequence.{IsSubsequence}

module _ {X : Type 0} where
  -- a list stands in itself
  pub stands_whole : (xs : List X) → IsSubsequence xs xs
  stands_whole [] = tt
  stands_whole (x ∷ xs) = inl (refl, stands_whole xs)

  -- what stands in a list stands in it with more before, and with more after
  pub stands_after : (xs : List X) (y : X) (ys : List X) → IsSubsequence xs ys
      → IsSubsequence xs (y ∷ ys)
  stands_after [] y ys h = tt
  stands_after (x ∷ xs) y ys h = inr h

  pub stands_later : (xs ys zs : List X) → IsSubsequence xs zs → IsSubsequence xs (ys ++ zs)
  stands_later xs [] zs h = h
  stands_later xs (y ∷ ys) zs h = stands_after xs y (ys ++ zs) (stands_later xs ys zs h)

  pub stands_more : (xs ys zs : List X) → IsSubsequence xs ys → IsSubsequence xs (ys ++ zs)
  stands_more [] ys zs h = tt
  stands_more (x ∷ xs) [] zs h = absurd h
  stands_more (x ∷ xs) (y ∷ ys) zs h =
      elim h [
        | inl p ↦ inl (p.0, stands_more xs ys zs p.1)
        | inr q ↦ inr (stands_more (x ∷ xs) ys zs q)
      ]

  -- so do two that stand in two lists, end to end
  pub stands_append : (xs ys us vs : List X) → IsSubsequence xs ys → IsSubsequence us vs
      → IsSubsequence (xs ++ us) (ys ++ vs)
  stands_append [] ys us vs h k = stands_later us ys vs k
  stands_append (x ∷ xs) [] us vs h k = absurd h
  stands_append (x ∷ xs) (y ∷ ys) us vs h k =
      elim h [
        | inl p ↦ inl (p.0, stands_append xs ys us vs p.1 k)
        | inr q ↦ inr (stands_append (x ∷ xs) ys us vs q k)
      ]

  pub stands_push : (xs ys : List X) (z : X) → IsSubsequence xs ys
      → IsSubsequence (xs ++ z ∷ []) (ys ++ z ∷ [])
  stands_push xs ys z h = stands_append xs ys (z ∷ []) (z ∷ []) h (inl (refl, tt))

  -- a prefix of what stands in a list stands there
  pub stands_front : (xs zs ys : List X) → IsSubsequence (xs ++ zs) ys → IsSubsequence xs ys
  stands_front [] zs ys h = tt
  stands_front (x ∷ xs) zs [] h = absurd h
  stands_front (x ∷ xs) zs (y ∷ ys) h =
      elim h [
        | inl p ↦ inl (p.0, stands_front xs zs ys p.1)
        | inr q ↦ inr (stands_front (x ∷ xs) zs ys q)
      ]

  -- what stands in a list that stands in another stands in that
  pub stands_through : (xs ys zs : List X) → IsSubsequence xs ys → IsSubsequence ys zs
      → IsSubsequence xs zs
  stands_through [] ys zs h k = tt
  stands_through (x ∷ xs) [] zs h k = absurd h
  stands_through (x ∷ xs) (y ∷ ys) [] h k = absurd k
  stands_through (x ∷ xs) (y ∷ ys) (z ∷ zs) h k =
      elim k [
        | inl q ↦ elim h [
          | inl p ↦ inl (p.0 ∙ q.0, stands_through xs ys zs p.1 q.1)
          | inr p ↦ inr (stands_through (x ∷ xs) ys zs p q.1)
        ]
        | inr q ↦ inr (stands_through (x ∷ xs) (y ∷ ys) zs h q)
      ]

  -- and in what passes a test that each of its items passes
  passed : (p : X → Bool) (b : Bool) (x : X) (xs : List X) (y : X) (ys : List X) → p y ≡ b
      → All (λ z. p z ≡ true) (x ∷ xs)
      → (All (λ z. p z ≡ true) xs → IsSubsequence xs ys → IsSubsequence xs (filter p ys))
      → (IsSubsequence (x ∷ xs) ys → IsSubsequence (x ∷ xs) (filter p ys))
      → IsSubsequence (x ∷ xs) (y ∷ ys) → IsSubsequence (x ∷ xs) (filter p (y ∷ ys))
  passed p true x xs y ys is all both skip h =
      rw is (elim h [
        | inl q ↦ inl (q.0, both (All-tail (λ z. p z ≡ true) x xs all) q.1)
        | inr q ↦ inr (skip q)
      ])
  passed p false x xs y ys is all both skip h =
      rw is (elim h [
        | inl q ↦ let no : true ≡ false = sym (All-head (λ z. p z ≡ true) x xs all)
            ∙ (ap p q.0 ∙ is) in absurd cc
        | inr q ↦ skip q
      ])

  pub stands_passed : (p : X → Bool) (xs ys : List X) → All (λ z. p z ≡ true) xs
      → IsSubsequence xs ys → IsSubsequence xs (filter p ys)
  stands_passed p [] ys all h = tt
  stands_passed p (x ∷ xs) [] all h = absurd h
  stands_passed p (x ∷ xs) (y ∷ ys) all h =
      passed p (p y) x xs y ys refl all (λ rest q. stands_passed p xs ys rest q)
      (λ q. stands_passed p (x ∷ xs) ys all q) h
