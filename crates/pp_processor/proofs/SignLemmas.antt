use Rattle.std.proofs.Common.{◌≡◌, ℕ, ◌/◌, ◌%◌, ◌^◌, ◌<◌, ◌==◌, nat_le, arith}
use Rattle.std.proofs.Math.Nat.{div-div-eq-div-mul}
use Rattle.std.proofs.lemmas.Grind.{common_steps}
use Rattle.pp_word.specs.Bits.{bit, lowest_bits}

-- a number below 2 ^ 18 has an odd quotient by 2 ^ 17 just where it is at least 2 ^ 17
odd_quotient : (a : ℕ) → a < 2 ^ 18 → nat_le (2 ^ 17) a ≡ (a / 2 ^ 17 % 2 == 1)
odd_quotient a h = grind (arith, common_steps)

-- the uppermost place of a word of 18 bits is 1 from 2 ^ 17 on
pub uppermost_place : (number a : ℕ) → number ≡ a → number < 2 ^ 18 → nat_le (2 ^ 17) number ≡ bit a 17
unfolding lowest_bits
uppermost_place number a e h = rw (← e) (simp div-div-eq-div-mul (odd_quotient number h))
