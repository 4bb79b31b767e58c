use Rattle.std.proofs.Common.{◌≡◌, ℕ, zero, suc, ◌+◌, ◌*◌, ◌/◌, ◌%◌, ◌^◌, ◌<◌, ◌==◌, Bool, true, false, not, List, [], ◌∷◌, ◌++◌, map, take, drop, replicate, length, refl, ap, arith, if◌then◌else◌}
use Rattle.std.proofs.lemmas.Grind.{common_steps}
use Rattle.std.proofs.lemmas.Nat.{shr-shr, mod-pow-add}
use Rattle.std.proofs.Math.Nat.{pow-succ'}
use Rattle.pp_word.specs.Bits.{lowest_bits, number_of}

-- one more bit, by lemma over plain numbers
one_more : (v p a b c : ℕ) → a ≡ b + p * c → v + 2 * a ≡ v + 2 * b + 2 * p * c
one_more v p a b c e = grind arith

-- a number_of made of two runs of bits
pub number_of-append : (xs ys : List Bool) → number_of (xs ++ ys) ≡ number_of xs + 2 ^ length xs * number_of ys
number_of-append [] ys = grind (arith, common_steps)
number_of-append (x ∷ xs) ys = rw (pow-succ' 2 (length xs)) (one_more (if x then 1 else 0) (2 ^ length xs) (number_of (xs ++ ys)) (number_of xs) (number_of ys) (number_of-append xs ys))

pub length-lowest_bits : (w n : ℕ) → length (lowest_bits w n) ≡ w
unfolding lowest_bits
length-lowest_bits zero n = refl
length-lowest_bits (suc w) n = grind (arith, common_steps, length-lowest_bits w (n / 2))

-- a bit's value
bit_value : (m : ℕ) → m < 2 → (if m == 1 then 1 else 0) ≡ m
bit_value zero h = refl
bit_value (suc zero) h = refl
bit_value (suc (suc m)) h = grind arith

-- the bits of a number_of make it again
pub number_of-lowest_bits : (w n : ℕ) → number_of (lowest_bits w n) ≡ n % 2 ^ w
unfolding lowest_bits
number_of-lowest_bits zero n = grind (arith, common_steps)
number_of-lowest_bits (suc w) n =
    let lowest = bit_value (n % 2) (omega arith) in
    let rest = number_of-lowest_bits w (n / 2) in
    let whole = mod-pow-add n w 1 in
    let more : w + 1 ≡ suc w = omega arith in
    let goes : n % 2 ^ suc w ≡ n / 2 % 2 ^ w * 2 + n % 2 = rw (← more) whole in
    rw (lowest, rest, goes) (omega arith)

pub number_of-none : (k : ℕ) → number_of (replicate k false) ≡ 0
number_of-none zero = refl
number_of-none (suc k) = grind (arith, common_steps, number_of-none k)

-- turning each bit
pub number_of-not : (bs : List Bool) → number_of (map not bs) + number_of bs + 1 ≡ 2 ^ length bs
number_of-not [] = refl
number_of-not (true ∷ bs) = let e = number_of-not bs in let p = pow-succ' 2 (length bs) in omega arith
number_of-not (false ∷ bs) = let e = number_of-not bs in let p = pow-succ' 2 (length bs) in omega arith

pub drop-lowest_bits : (k w n : ℕ) → drop k (lowest_bits (k + w) n) ≡ lowest_bits w (n / 2 ^ k)
unfolding lowest_bits
drop-lowest_bits zero w n = grind arith
drop-lowest_bits (suc k) w n =
    let e = drop-lowest_bits k w (n / 2) in
    let s = shr-shr n 1 k in
    let more : suc k + w ≡ suc (k + w) = omega arith in
    let one : 1 + k ≡ suc k = omega arith in
    rw (more, ← one, ← s) e

pub take-lowest_bits : (k w n : ℕ) → take k (lowest_bits (k + w) n) ≡ lowest_bits k n
unfolding lowest_bits
take-lowest_bits zero w n = refl
take-lowest_bits (suc k) w n =
    let e = take-lowest_bits k w (n / 2) in
    let more : suc k + w ≡ suc (k + w) = omega arith in
    rw more (ap (λ bs. (n % 2 == 1) ∷ bs) e)
