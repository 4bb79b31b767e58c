-- A central word of 60 bits and its five parts of twelve bits, the leftmost first.
-- (Manual 60100000, peripheral processors: central read and central write.)
use Rattle.std.specs.Prelude.{ℕ, ◌+◌, ◌*◌, ◌/◌, ◌%◌, ◌^◌, List, [], ◌∷◌, fold}

abbrev pub parts_of : ℕ → List ℕ
parts_of word = word / 2 ^ 48 % 2 ^ 12 ∷ word / 2 ^ 36 % 2 ^ 12 ∷ word / 2 ^ 24 % 2 ^ 12
    ∷ word / 2 ^ 12 % 2 ^ 12 ∷ word % 2 ^ 12 ∷ []

-- parts put together, each to the right of those before it
abbrev pub joined : List ℕ → ℕ
joined parts = fold (λ word part. word * 2 ^ 12 + part) 0 parts
