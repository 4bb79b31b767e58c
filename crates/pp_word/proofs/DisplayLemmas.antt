-- What `{}` writes of a number, and of words, digit by digit.
use Rattle.std.proofs.Common.{◌≡◌, ℕ, zero, suc, ◌/◌, ◌%◌, ◌^◌, ◌<◌, ◌≤◌, List, [], ◌++◌, refl, sym, arith}
use Rattle.std.specs.Fmt.{decimal as plain_decimal}
use Rattle.std.proofs.lemmas.Fmt.{AppendsLastDigit, decimal_digit, decimal_from_appends, length-decimal-le_wide}
use Rattle.pp_word.specs.Numeral.{digit, octal, short_decimal, unpadded}

-- at most so many digits, but at least one
appended : ℕ → ℕ → List ℕ
appended zero n = []
appended (suc most) n = unpadded most (n / 10) ++ digit (n % 10)

appends : AppendsLastDigit appended
unfolding appended
appends = record { one = λ k n low. grind arith; more = more }
  where
    more : (k n : ℕ) → 10 ≤ n → appended (suc k) n ≡ appended k (n / 10) ++ digit (n % 10)
    more zero n low = refl
    more (suc k) n low = grind arith

pub decimal_shown : (n : ℕ) → n < 2 ^ 64 → plain_decimal n ≡ short_decimal n
unfolding appended short_decimal
decimal_shown n low = sym (decimal_from_appends appended appends 20 n low (length-decimal-le_wide 20 n (omega arith) (omega (arith, low)) (omega (arith, low))))

-- ---- octal digits

octal_digit : (n : ℕ) → plain_decimal (n % 8) ≡ digit (n % 8)
octal_digit n = decimal_digit (n % 8) (omega arith)

pub two_digits : (n : ℕ) → plain_decimal (n / 8 % 8) ++ plain_decimal (n % 8) ≡ octal 2 n
two_digits n = rw (octal_digit (n / 8), octal_digit n) refl

pub four_digits : (n : ℕ) → plain_decimal (n / 8 / 8 / 8 % 8) ++ (plain_decimal (n / 8 / 8 % 8) ++ (plain_decimal (n / 8 % 8) ++ plain_decimal (n % 8))) ≡ octal 4 n
four_digits n = rw (octal_digit (n / 8 / 8 / 8), octal_digit (n / 8 / 8), octal_digit (n / 8), octal_digit n) refl
