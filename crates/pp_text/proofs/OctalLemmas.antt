-- Octal numbers, one digit more.
use Rattle.std.proofs.Common.{◌≡◌, ℕ, suc, ◌-◌, ◌/◌, ◌%◌, ◌^◌, ◌<◌, ◌≤◌, ◌++◌, arith, lt-ltb, le-ltb}
use Rattle.std.proofs.Math.Nat.{pow-suc, pow-zero}
use Rattle.std.proofs.lemmas.Bool.{cond-true, cond-false}
use Rattle.pp_word.specs.Numeral.{digit, octal, short_octal}

-- a number of some digits ends with its last digit
pub octal_more : (width n : ℕ) → 0 < width → octal (width - 1) (n / 8) ++ digit (n % 8) ≡ octal width n
octal_more width n h = grind arith

pub short_first : (most n : ℕ) → 0 < most → n < 8 → digit (n % 8) ≡ short_octal most n
unfolding short_octal
short_first most n some lt = grind (arith, cond-true, lt-ltb)

pub short_more : (most n : ℕ) → 0 < most → 8 ≤ n → short_octal (most - 1) (n / 8) ++ digit (n % 8) ≡ short_octal most n
unfolding short_octal
short_more most n some le = grind (arith, cond-false, le-ltb)

short_rest_of : (width n : ℕ) → 8 ≤ n → n < 8 ^ suc width → (0 < width) × (n / 8 < 8 ^ width)
short_rest_of width n le lt = grind (arith, pow-suc, pow-zero)

-- what is left of the number, for the digits that are left
pub short_rest : (most n : ℕ) → 0 < most → 8 ≤ n → n < 8 ^ most → (0 < most - 1) × (n / 8 < 8 ^ (most - 1))
short_rest most n some le lt = grind (arith, short_rest_of)
