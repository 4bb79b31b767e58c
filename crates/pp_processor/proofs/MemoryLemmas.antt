use Rattle.std.proofs.Common.{◌≡◌, ℕ, zero, suc, replicate, slice_index, refl, arith}
use Rattle.std.proofs.lemmas.List.{length-replicate}
use Rattle.pp_word.specs.Address.{place_count}
use Rattle.pp_processor.specs.PpMemory.{IsMemory}

-- each place of a run of zeros has 0, also past its end
replicate-zero : (n place : ℕ) → slice_index (replicate n 0) place ≡ 0
replicate-zero zero place = refl
replicate-zero (suc n) zero = refl
replicate-zero (suc n) (suc place) = replicate-zero n place

-- a run of as many zeros as there are places is a memory
IsMemory-replicate : (n : ℕ) → n ≡ place_count → IsMemory (replicate n 0)
IsMemory-replicate n e = grind (arith, length-replicate, replicate-zero)

pub zero_memory : IsMemory (replicate 4096 0)
zero_memory = IsMemory-replicate 4096 refl
