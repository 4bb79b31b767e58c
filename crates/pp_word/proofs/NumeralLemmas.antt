-- Printed numbers spell what they stand for, and are read as that.
use Rattle.std.proofs.Common.{◌≡◌, ◌∙◌, add-one, ℕ, zero, suc, ◌+◌, ◌*◌, ◌/◌, ◌%◌, ◌^◌, ◌<◌, ◌≤◌, Bool, true, false, cond, List, ◌++◌, length, Some, refl, sym, ap, inl, inr, append_assoc, arith, lit<, length-append, ltb-true}
use Rattle.std.specs.Prelude.{◌&&◌}
use Rattle.std.specs.List.{list_all}
use Rattle.std.proofs.Math.Arith.{mod-mul}
use Rattle.std.proofs.Math.Nat.{add-mul, mod-eq_of_lt, mod-lt, mul-le-mul_right, one-le-pow, pow-le-pow_right, pow-suc, pow-zero}
use Rattle.std.proofs.lemmas.Bool.{cases_eq, le-leb, lt-ltb, ne_eqb}
use Rattle.std.proofs.lemmas.List.{append-nil}
use Rattle.std.proofs.lemmas.List.Folds.{list_all-append}
use Rattle.std.proofs.lemmas.List.Sums.{fold-append}
use Rattle.std.proofs.lemmas.Nat.{div-add-mod'}
use Rattle.pp_word.specs.Numeral.{IsNumeral, decimal, digit, digits, is_digit, numeral, octal, short_octal, unpadded, value_of}

both : (a b : Bool) → a ≡ true → b ≡ true → a && b ≡ true
both a b one other = rw (one, other) refl

-- ---- values

-- one digit more at the end
value_end : (base : ℕ) (characters : List ℕ) (d : ℕ)
    → value_of base (characters ++ digit d) ≡ value_of base characters * base + d
value_end base characters d = grind (arith, fold-append)

-- the digits of a width spell the number modulo the power of that width
pub digits_value : (base width n : ℕ) → 0 < base
    → value_of base (digits base width n) ≡ n % base ^ width
digits_value base zero n h = rw pow-zero (omega arith)
digits_value base (suc width) n h = grind (arith, value_end, pow-suc, mod-mul, one-le-pow, digits_value base width (n / base) h)

unpadded_value : (most n : ℕ) → n < 10 ^ most → value_of 10 (unpadded most n) ≡ n
unpadded_value zero n h = omega arith
unpadded_value (suc most) n h =
    elim (cases_eq n 0) [
      | inl z ↦ rw z refl
      | inr some ↦
          let rest : n / 10 < 10 ^ most = omega (arith, pow-suc 10 most) in
          rw (ne_eqb n 0 some) (value_end 10 (unpadded most (n / 10)) (n % 10)
          ∙ ap (λ (x : ℕ). x * 10 + n % 10) (unpadded_value most (n / 10) rest)
          ∙ div-add-mod' n 10)
    ]

-- digits after others
value_after : (base width n : ℕ) (characters : List ℕ)
    → value_of base (characters ++ digits base width n)
    ≡ value_of base characters * base ^ width + value_of base (digits base width n)
value_after base zero n characters = rw (append-nil characters, pow-zero base) (omega arith)
value_after base (suc width) n characters =
    ap (value_of base)
    (sym (append_assoc characters (digits base width (n / base)) (digit (n % base))))
    ∙ value_end base (characters ++ digits base width (n / base)) (n % base)
    ∙ ap (λ (x : ℕ). x * base + n % base) (value_after base width (n / base) characters)
    ∙ rw (pow-suc base width, value_end base (digits base width (n / base)) (n % base))
    (omega arith)

decimal_value : (n : ℕ) → n < 2 ^ 64 → value_of 10 (decimal n) ≡ n
unfolding decimal
decimal_value n h =
    value_after 10 6 (n % 10 ^ 6) (unpadded 14 (n / 10 ^ 6))
    ∙ rw (unpadded_value 14 (n / 10 ^ 6) (omega arith), digits_value 10 6 (n % 10 ^ 6) (lit< tt))
    (omega arith)

value_one : (d : ℕ) → value_of 8 (digit d) ≡ d
value_one d = omega arith

short_value_if : (b : Bool) (n : ℕ) (xs : List ℕ) → (b ≡ false → value_of 8 xs ≡ n / 8)
    → value_of 8 (cond b (digit n) (xs ++ digit (n % 8))) ≡ n
short_value_if true n xs h = value_one n
short_value_if false n xs h = grind (arith, value_end, div-add-mod')

short_value : (most n : ℕ) → n < 8 ^ most → value_of 8 (short_octal most n) ≡ n
unfolding short_octal
short_value zero n lt = let one = pow-zero 8 in omega (arith, lt, one)
short_value (suc most) n lt = grind (arith, short_value_if, pow-suc, short_value most (n / 8) (omega (arith, lt, pow-suc 8 most)))

-- ---- digits

digit_is : (base d : ℕ) → d < base → is_digit base (48 + d) ≡ true
digit_is base d below = grind (arith, both, le-leb, lt-ltb)

-- a test that each digit of a base passes
abbrev pub Pass : ℕ → (ℕ → Bool) → Type 0
Pass base p = (d : ℕ) → d < base → p (48 + d) ≡ true

digit_pass : (base : ℕ) (p : ℕ → Bool) → Pass base p → (d : ℕ) → d < base
    → list_all p (digit d) ≡ true
digit_pass base p h d lt = both (p (48 + d)) true (h d lt) refl

pub digits_pass : (base : ℕ) (p : ℕ → Bool) → Pass base p → 0 < base → (width n : ℕ)
    → list_all p (digits base width n) ≡ true
digits_pass base p h some zero n = refl
digits_pass base p h some (suc width) n = grind (arith, list_all-append, both, digit_pass, mod-lt, digits_pass base p h some width (n / base))

unpadded_pass : (p : ℕ → Bool) → Pass 10 p → (most n : ℕ) → list_all p (unpadded most n) ≡ true
unpadded_pass p h zero n = refl
unpadded_pass p h (suc most) n = grind (arith, cases_eq, ne_eqb, list_all-append, both, digit_pass, unpadded_pass p h most (n / 10))

pub decimal_pass : (p : ℕ → Bool) → Pass 10 p → (n : ℕ) → list_all p (decimal n) ≡ true
unfolding decimal
decimal_pass p h n =
    list_all-append p (unpadded 14 (n / 10 ^ 6)) (digits 10 6 (n % 10 ^ 6))
    ∙ both (list_all p (unpadded 14 (n / 10 ^ 6))) (list_all p (digits 10 6 (n % 10 ^ 6)))
    (unpadded_pass p h 14 (n / 10 ^ 6)) (digits_pass 10 p h (lit< tt) 6 (n % 10 ^ 6))

short_pass_if : (p : ℕ → Bool) (b : Bool) (xs ys : List ℕ) → (b ≡ true → list_all p xs ≡ true)
    → list_all p ys ≡ true → list_all p (cond b xs ys) ≡ true
short_pass_if p true xs ys h k = h refl
short_pass_if p false xs ys h k = k

pub short_pass : (p : ℕ → Bool) → Pass 8 p → (most n : ℕ)
    → list_all p (short_octal most n) ≡ true
unfolding short_octal
short_pass p h zero n = refl
short_pass p h (suc most) n = grind (arith, short_pass_if, digit_pass, ltb-true, list_all-append, both, short_pass p h most (n / 8))

pub decimal_are : (n : ℕ) → list_all (is_digit 10) (decimal n) ≡ true
decimal_are = decimal_pass (is_digit 10) (digit_is 10)

pub digits_are : (base width n : ℕ) → 0 < base
    → list_all (is_digit base) (digits base width n) ≡ true
digits_are base width n some = digits_pass base (is_digit base) (digit_is base) some width n

-- ---- lengths

pub length_digits : (base width n : ℕ) → length (digits base width n) ≡ width
length_digits base zero n = refl
length_digits base (suc width) n = grind (arith, length-append, length_digits base width (n / base))

unpadded_short : (most k n : ℕ) → n < 10 ^ k → length (unpadded most n) ≤ k
unpadded_short zero k n h = omega arith
unpadded_short (suc most) zero n h = grind (arith, pow-zero)
unpadded_short (suc most) (suc k) n h =
    elim (cases_eq n 0) [
      | inl z ↦ rw z (omega arith)
      | inr some ↦
          let rest : n / 10 < 10 ^ k = omega (arith, h, pow-suc 10 k) in
          let short = unpadded_short most k (n / 10) rest in
          let all = length-append (unpadded most (n / 10)) (digit (n % 10)) in
          rw (ne_eqb n 0 some) (omega (arith, short, all))
    ]

decimal_length : (n : ℕ) → length (decimal n) ≡ length (unpadded 14 (n / 10 ^ 6)) + 6
unfolding decimal
decimal_length n = grind (arith, length-append, length_digits)

pub decimal_long : (n : ℕ) → 6 ≤ length (decimal n)
decimal_long n = let all = decimal_length n in omega (arith, all)

pub decimal_of_six : (n : ℕ) → n < 10 ^ 6 → length (decimal n) ≡ 6
decimal_of_six n h = grind (arith, decimal_length)

decimal_short : (n : ℕ) → n < 10 ^ 19 → length (decimal n) ≤ 19
decimal_short n below =
    let short = unpadded_short 14 13 (n / 10 ^ 6) (omega (arith, below)) in
    let all = decimal_length n in omega (arith, short, all)

short_length_if : (b : Bool) (xs : List ℕ) (d e most : ℕ) → length xs ≤ most
    → (1 ≤ length (cond b (digit d) (xs ++ digit e)))
    × (length (cond b (digit d) (xs ++ digit e)) ≤ suc most)
short_length_if true xs d e most le = (omega arith, omega arith)
short_length_if false xs d e most le = grind (arith, length-append)

short_most : (most n : ℕ) → length (short_octal most n) ≤ most
unfolding short_octal
short_most zero n = omega arith
short_most (suc most) n = grind (arith, short_length_if, short_most most (n / 8))

pub short_some : (most n : ℕ) → 0 < most → 1 ≤ length (short_octal most n)
unfolding short_octal
short_some zero n some = absurd (omega (arith, some))
short_some (suc most) n some = grind (arith, short_most, short_length_if)

-- ---- what is read

read_number : (base most n : ℕ) (text : List ℕ) → 1 ≤ length text → length text ≤ most
    → list_all (is_digit base) text ≡ true → value_of base text ≡ n
    → numeral base most text ≡ Some n
unfolding numeral
read_number base most n text some short digits value = grind (arith, le-leb)

pub octal_read : (width most n : ℕ) → 0 < width → width ≤ most → n < 8 ^ width
    → numeral 8 most (octal width n) ≡ Some n
octal_read width most n some short below = grind (arith, length_digits, read_number, digits_are, lit<, digits_value, mod-eq_of_lt)

pub short_read : (most n : ℕ) → 0 < most → n < 8 ^ most
    → numeral 8 most (short_octal most n) ≡ Some n
short_read most n some below = grind (arith, read_number, short_some, short_most, short_pass, digit_is, short_value)

pub decimal_read : (n : ℕ) → n < 10 ^ 19 → numeral 10 19 (decimal n) ≡ Some n
decimal_read n below = grind (arith, decimal_long, read_number, decimal_short, decimal_are, decimal_value)

-- ---- numerals

pub octal_numeral : (width n : ℕ) → n < 8 ^ width → IsNumeral 8 (octal width n) n
octal_numeral width n below = grind (arith, digits_are, lit<, digits_value, mod-eq_of_lt)

pub decimal_numeral : (n : ℕ) → n < 2 ^ 64 → IsNumeral 10 (decimal n) n
decimal_numeral n below = record { digits = decimal_are n; value = decimal_value n below }

-- ---- bounds

-- one digit more
pub next_below : (base i value digit : ℕ) → value < base ^ i → digit < base
    → value * base + digit < base ^ (i + 1)
next_below base i value digit small less =
    let room : (value + 1) * base ≤ (base ^ i) * base = mul-le-mul_right base (omega arith) in
    let next : base ^ (i + 1) ≡ base ^ i * base =
    ap (λ n. base ^ n) (add-one i) ∙ pow-suc base i in
    let apart : (value + 1) * base ≡ value * base + 1 * base = add-mul value 1 base in
    omega (arith, room, next, apart, less)

-- more digits allow greater numbers
pub more_digits : (base i most : ℕ) → 1 < base → i ≤ most → base ^ i ≤ base ^ most
more_digits base i most least less = grind (arith, pow-le-pow_right)
