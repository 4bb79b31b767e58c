-- Sum and difference of the 18-bit accumulator in ones' complement, with all ones a second zero.
-- (Manual 60100000, the accumulator A. Which zero results is this project's choice.)
use Rattle.std.specs.Prelude.{ℕ, ◌≡◌, ◌+◌, ◌-◌, ◌%◌, ◌^◌, ◌<◌, ◌↔◌, ◌==◌, if◌then◌else◌, ◌&&◌}

-- 777777, the negative zero; the words count modulo this number
abbrev pub all_ones : ℕ
all_ones = 2 ^ 18 - 1

-- c is a sum of a and b: congruent to a + b, and all ones exactly if both are
pub record IsSum (a b c : ℕ) : Type 0 where
  pub fits : c < 2 ^ 18
  pub congruent : c % all_ones ≡ (a + b) % all_ones
  pub negative_zero : (c ≡ all_ones) ↔ ((a ≡ all_ones) × (b ≡ all_ones))

-- c is a difference of a and b: c + b is congruent to a; c is all ones exactly if a is and b is 0
pub record IsDifference (a b c : ℕ) : Type 0 where
  pub fits : c < 2 ^ 18
  pub congruent : (c + b) % all_ones ≡ a % all_ones
  pub negative_zero : (c ≡ all_ones) ↔ ((a ≡ all_ones) × (b ≡ 0))

abbrev pub sum : ℕ → ℕ → ℕ
sum a b = if a == all_ones && b == all_ones then all_ones else (a + b) % all_ones

abbrev pub difference : ℕ → ℕ → ℕ
difference a b = if a == all_ones && b == 0 then all_ones else (a + all_ones - b) % all_ones
