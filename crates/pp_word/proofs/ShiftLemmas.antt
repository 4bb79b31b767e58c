use Rattle.std.proofs.Common.{◌≡◌, ℕ, ◌+◌, ◌-◌, ◌*◌, ◌/◌, ◌%◌, ◌^◌, ◌<◌, ◌≤◌, ◌++◌, take, drop, ap, sym, ◌∙◌, arith, bit_or, min, zero, suc, nat_lt, lt-ltb, le-ltb}
use Rattle.std.proofs.lemmas.Nat.{shr-shr, mod-pow-add, shl-shr, or_mod, or_shifted, shr_below, shr_le, pow_pos}
use Rattle.std.proofs.Math.Pow.{mod-mod-pow}
use Rattle.std.proofs.lemmas.Grind.{common_steps}
use Rattle.std.proofs.Math.Nat.{pow-succ'}
use Rattle.pp_word.specs.Bits.{lowest_bits, number_of, right_shift, bits_of, complement, shift}
use Rattle.pp_word.proofs.BitsLemmas.{number_of-append, length-lowest_bits, number_of-lowest_bits, number_of-none, number_of-not, drop-lowest_bits, take-lowest_bits}

-- each bit turned is all ones less the word
pub complemented_is : (a : ℕ) → a < 2 ^ 18 → complement a ≡ 2 ^ 18 - 1 - a
complemented_is a h = grind (arith, number_of-not, length-lowest_bits, number_of-lowest_bits)

multiple_mod : (a m : ℕ) → 0 < m → a * m % m ≡ 0
multiple_mod a m h = grind (arith, common_steps)

-- a number shifted left within 18 bits
low_part : (a t r : ℕ) → r + t ≡ 18 → a * 2 ^ t % 2 ^ 32 % 2 ^ 18 ≡ a % 2 ^ r * 2 ^ t
low_part a t r e =
    let cut = mod-mod-pow (a * 2 ^ t) 14 18 in
    let parts = mod-pow-add (a * 2 ^ t) r t in
    let back = shl-shr a t in
    let none : a * 2 ^ t % 2 ^ t ≡ 0 = multiple_mod a (2 ^ t) (pow_pos t) in
    let whole : a * 2 ^ t % 2 ^ 18 ≡ a * 2 ^ t % 2 ^ (r + t) = ap (λ w. a * 2 ^ t % 2 ^ w) (sym e) in
    cut ∙ whole ∙ parts ∙ rw (back, none) (omega arith)

small_mod : (a m : ℕ) → a < m → a % m ≡ a
small_mod a m h = grind (arith, common_steps)

-- the two ends of a word that is turned, by masks
pub rotated_by_masks : (a t r : ℕ) → r + t ≡ 18 → a < 2 ^ 18 → bit_or (a * 2 ^ t % 2 ^ 32) (a / 2 ^ r) % 2 ^ 18 ≡ a / 2 ^ r + 2 ^ t * (a % 2 ^ r)
rotated_by_masks a t r e h =
    let small : a / 2 ^ r < 2 ^ t = shr_below a t r (let f : r + t ≡ t + r = omega arith in rw (← f, e) h) in
    let whole : a / 2 ^ r % 2 ^ 18 ≡ a / 2 ^ r = (let le = shr_le a r in omega arith) in
    rw (or_mod (a * 2 ^ t % 2 ^ 32) (a / 2 ^ r) 18, low_part a t r e, whole, or_shifted (a % 2 ^ r) t (a / 2 ^ r) small) (grind arith)

-- the same by bits
pub rotated_by_bits : (a t r : ℕ) → r + t ≡ 18 → a < 2 ^ 18 → number_of (drop r (bits_of a) ++ take r (bits_of a)) ≡ a / 2 ^ r + 2 ^ t * (a % 2 ^ r)
rotated_by_bits a t r e h = grind (arith, shr_below, drop-lowest_bits, take-lowest_bits, number_of-append, number_of-lowest_bits, small_mod, length-lowest_bits)

-- a right shift by bits
number_of-drop : (k w n : ℕ) → n < 2 ^ w → number_of (drop k (lowest_bits w n)) ≡ n / 2 ^ k
unfolding lowest_bits
number_of-drop zero w n h = number_of-lowest_bits w n ∙ small_mod n (2 ^ w) h ∙ grind arith
number_of-drop (suc k) zero n h = let none : n ≡ 0 = omega arith in let le = shr_le n (suc k) in omega arith
number_of-drop (suc k) (suc w) n h =
    let double = pow-succ' 2 w in
    let half : n / 2 < 2 ^ w = omega arith in
    let more : 1 + k ≡ suc k = omega arith in
    number_of-drop k w (n / 2) half ∙ shr-shr n 1 k ∙ ap (λ j. n / 2 ^ j) more

pub shifted_right_is : (a d : ℕ) → a < 2 ^ 18 → number_of (right_shift d (bits_of a)) ≡ a / 2 ^ d
shifted_right_is a d h = grind (arith, number_of-append, min, number_of-none, number_of-drop)

-- SHN as the code computes it
pub left_shift_is : (a d : ℕ) → a < 2 ^ 18 → d < 32 → bit_or (a * 2 ^ (d % 18) % 2 ^ 32) (a / 2 ^ (18 - d % 18)) % 2 ^ 18 ≡ shift a d
left_shift_is a d h below = grind (arith, nat_lt, lt-ltb, rotated_by_masks, rotated_by_bits)

pub right_shift_is : (a d : ℕ) → a < 2 ^ 18 → 32 ≤ d → a / 2 ^ (63 - d) % 2 ^ 18 ≡ shift a d
right_shift_is a d h above = grind (arith, nat_lt, le-ltb, shr_le, small_mod, shifted_right_is)
