-- The memory of a peripheral processor: the list of its words, from place 0000 on.
-- (Manual 60100000, peripheral processors: a memory of 4096 (decimal) words of 12 bits.)
use Rattle.std.specs.Prelude.{ℕ, ◌≡◌, ◌<◌, ◌^◌, List, length, slice_index, replicate}
use Rattle.pp_word.specs.Address.{place_count}

-- a list that is a memory: a word of 12 bits for each place
pub record IsMemory (words : List ℕ) : Type 0 where
  pub each_place : length words ≡ place_count
  pub each_word : (place : ℕ) → slice_index words place < 2 ^ 12

unfoldable pub empty_memory : List ℕ
empty_memory = replicate place_count 0
