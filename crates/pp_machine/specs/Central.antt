-- Central memory, as the peripheral processors see it: words of 60 bits, by addresses from 0 on.
-- (Manual 60100000, part on central memory: up to 131,072 words of 60 bits.)
use Rattle.std.specs.Prelude.{ℕ, ◌<◌, ◌≤◌, ◌^◌, List, length, slice_index}

-- a size that central memory may have: 1 to 400000 words (octal)
pub record IsCentralSize (size : ℕ) : Type 0 where
  pub some : 0 < size
  pub most : size ≤ 2 ^ 17

-- words of 60 bits, as many as the size says
pub record IsCentral (words : List ℕ) : Type 0 where
  pub size : IsCentralSize (length words)
  pub small : (a : ℕ) → slice_index words a < 2 ^ 60
