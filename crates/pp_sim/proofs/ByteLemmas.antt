-- What successive reads do to known bytes.
use Rattle.std.proofs.Common.{◌≡◌, ℕ, ◌≤◌, ◌<◌, List, [], ◌++◌, length, take, Option, Some, None, sym, ap, ◌∙◌, append_assoc, inl, inr}
use Rattle.std.specs.Prelude.{◌⊎◌}
use Rattle.std.specs.Io.KnownBytes.{Consumes}
use Rattle.std.proofs.lemmas.List.{take-append-le, take_all, append-nil}

-- some bytes were read, and then some more
pub consumes_more : (a b c : Option (List ℕ)) (xs ys : List ℕ) → Consumes a b xs → Consumes b c ys → Consumes a c (xs ++ ys)
consumes_more None b c xs ys h k = tt
consumes_more (Some ws) None c xs ys h k = absurd h
consumes_more (Some ws) (Some bs) None xs ys h k = absurd k
consumes_more (Some ws) (Some bs) (Some cs) xs ys h k = h ∙ ap (λ (more : List ℕ). xs ++ more) k ∙ sym (append_assoc xs ys cs)

-- what was read up to the end or a limit is a front of what there was
pub read_front : (front rest : List ℕ) (n : ℕ) → length front ≤ n → (length front < n → rest ≡ []) → (length front < n) ⊎ (n ≤ length front) → front ≡ take n (front ++ rest)
read_front front rest n le end (inl lt) = rw (end lt, append-nil front) (sym (take_all n front le))
read_front front rest n le end (inr ge) = sym (take-append-le n front rest ge ∙ take_all n front le)
