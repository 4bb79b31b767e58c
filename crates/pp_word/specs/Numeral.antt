-- Numbers in digits, printed and read: octal, and decimal counts. A text is a list of ASCII codes.
use Rattle.std.specs.Prelude.{◌≡◌, ℕ, zero, suc, ◌+◌, ◌-◌, ◌*◌, fold, ◌/◌, ◌%◌, ◌^◌, ◌&&◌, Bool, true, List, [], ◌∷◌, ◌++◌, ◌==◌, length, nat_le, nat_lt, Option, Some, None, if◌then◌else◌}
use Rattle.std.specs.List.{flat_map, list_all, range_with_len}

-- the character of a digit, 0 to 9
abbrev pub digit : ℕ → List ℕ
digit n = (48 + n) ∷ []

-- the last `width` digits of a number in a base, the least significant at the end
abbrev pub digits : ℕ → ℕ → ℕ → List ℕ
digits base zero n = []
digits base (suc width) n = digits base width (n / base) ++ digit (n % base)

abbrev pub octal : ℕ → ℕ → List ℕ
octal width n = digits 8 width n

-- a number in octal digits, without leading zeros, in at most `most` digits
unfoldable pub short_octal : ℕ → ℕ → List ℕ
short_octal zero n = []
short_octal (suc most) n = if nat_lt n 8 then digit n else short_octal most (n / 8) ++ digit (n % 8)

-- a number in decimal digits, without leading zeros, but at most `most` digits
abbrev pub unpadded : ℕ → ℕ → List ℕ
unpadded zero n = []
unpadded (suc most) n = if n == 0 then [] else unpadded most (n / 10) ++ digit (n % 10)

-- a count of 64 bits in decimal digits, without leading zeros, but at least one digit
unfoldable pub short_decimal : ℕ → List ℕ
short_decimal n = unpadded 19 (n / 10) ++ digit (n % 10)

-- a count of 64 bits in decimal: six digits, with leading zeros, and more only if it needs more
unfoldable pub decimal : ℕ → List ℕ
decimal n = unpadded 14 (n / 10 ^ 6) ++ digits 10 6 (n % 10 ^ 6)

-- 00, 01, .., 99 in decimal: a table to put lines together (only a private contract cites this)
unfoldable pub decimal_pairs : List ℕ
decimal_pairs = flat_map (digits 10 2) (range_with_len 0 100)

-- the number that digits spell in a base, the most significant first
abbrev pub value_of : ℕ → List ℕ → ℕ
value_of base characters = fold (λ value character. value * base + (character - 48)) 0 characters

-- the characters of the digits of a base, from 48 (decimal) on
abbrev pub is_digit : ℕ → ℕ → Bool
is_digit base character = nat_le 48 character && nat_lt character (48 + base)

-- the characters are digits of the base, and spell this number
pub record IsNumeral (base : ℕ) (characters : List ℕ) (n : ℕ) : Type 0 where
  pub digits : list_all (is_digit base) characters ≡ true
  pub value : value_of base characters ≡ n

-- the number in a field: at least one digit of the base, and at most `most`
unfoldable pub numeral : ℕ → ℕ → List ℕ → Option ℕ
numeral base most field =
    if nat_le 1 (length field) && nat_le (length field) most && list_all (is_digit base) field
    then Some (value_of base field) else None
