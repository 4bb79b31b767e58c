use Rattle.std.proofs.Common.{◌≡◌, ℕ, zero, suc, ◌+◌, ◌-◌, ◌*◌, ◌/◌, ◌%◌, ◌^◌, ◌<◌, ◌==◌, Bool, not, map, zip, ◌&&◌, refl, sym, ◌∙◌, arith, if◌then◌else◌, bit_and}
use Rattle.std.specs.Int.RustNames.{bit_xor}
use Rattle.std.proofs.lemmas.Grind.{common_steps}
use Rattle.std.proofs.lemmas.Nat.{mod-pow-add, and_block, xor_block, and-not, and_mod, xor_mod, and_le_l, and_comm}
use Rattle.pp_word.specs.Bits.{lowest_bits, number_of, logical_product, logical_difference, selective_clear}

-- f is what op does to one bit, and op goes bit by bit
pub record IsBitwise (op : ℕ → ℕ → ℕ) (f : Bool → Bool → Bool) : Type 0 where
  pub none : op 0 0 ≡ 0
  pub one : (r s : ℕ) → r < 2 → s < 2 → (if f (r == 1) (s == 1) then 1 else 0) ≡ op r s
  pub more : (a b r s : ℕ) → r < 2 → s < 2 → op (a * 2 + r) (b * 2 + s) ≡ op a b * 2 + op r s

-- the lowest bit apart
split_lowest : (w n : ℕ) → n % 2 ^ suc w ≡ n / 2 % 2 ^ w * 2 + n % 2
split_lowest w n = let whole = mod-pow-add n w 1 in let more : w + 1 ≡ suc w = omega arith in rw (← more) whole

-- an operation on numbers, bit by bit
pub bitwise : (op : ℕ → ℕ → ℕ) (f : Bool → Bool → Bool) → IsBitwise op f → (w a b : ℕ) → number_of (map (λ pair. f pair.0 pair.1) (zip (lowest_bits w a) (lowest_bits w b))) ≡ op (a % 2 ^ w) (b % 2 ^ w)
unfolding lowest_bits
bitwise op f h zero a b = grind arith
bitwise op f h (suc w) a b = grind (arith, split_lowest, bitwise op f h w (a / 2) (b / 2))

and_one : (r s : ℕ) → r < 2 → s < 2 → (if (r == 1) && (s == 1) then 1 else 0) ≡ bit_and r s
and_one zero zero h k = refl
and_one zero (suc zero) h k = refl
and_one (suc zero) zero h k = refl
and_one (suc zero) (suc zero) h k = refl
and_one (suc (suc r)) s h k = absurd (omega arith)
and_one zero (suc (suc s)) h k = absurd (omega arith)
and_one (suc zero) (suc (suc s)) h k = absurd (omega arith)

xor_one : (r s : ℕ) → r < 2 → s < 2 → (if (if r == 1 then not (s == 1) else (s == 1)) then 1 else 0) ≡ bit_xor r s
xor_one zero zero h k = refl
xor_one zero (suc zero) h k = refl
xor_one (suc zero) zero h k = refl
xor_one (suc zero) (suc zero) h k = refl
xor_one (suc (suc r)) s h k = absurd (omega arith)
xor_one zero (suc (suc s)) h k = absurd (omega arith)
xor_one (suc zero) (suc (suc s)) h k = absurd (omega arith)

small_mod : (a m : ℕ) → a < m → a % m ≡ a
small_mod a m h = grind (arith, common_steps)

and_is_bitwise : IsBitwise bit_and (λ x y. x && y)
and_is_bitwise = record { none = refl; one = and_one; more = λ a b r s h k. and_block 1 a b r s h k }

xor_is_bitwise : IsBitwise bit_xor (λ x y. if x then not y else y)
xor_is_bitwise = record { none = refl; one = xor_one; more = λ a b r s h k. xor_block 1 a b r s h k }

less_one : (r s : ℕ) → r < 2 → s < 2 → (if (r == 1) && not (s == 1) then 1 else 0) ≡ r - bit_and r s
less_one zero zero h k = refl
less_one zero (suc zero) h k = refl
less_one (suc zero) zero h k = refl
less_one (suc zero) (suc zero) h k = refl
less_one (suc (suc r)) s h k = absurd (omega arith)
less_one zero (suc (suc s)) h k = absurd (omega arith)
less_one (suc zero) (suc (suc s)) h k = absurd (omega arith)

less_is_bitwise : IsBitwise (λ a b. a - bit_and a b) (λ x y. x && not y)
less_is_bitwise = record {
  none = refl;
  one = less_one;
  more = λ a b r s h k. (
      let whole = and_block 1 a b r s h k in
      let high = and_le_l a b in
      let low = and_le_l r s in
      omega arith);
}

pub logical_product_is : (a b : ℕ) → a < 2 ^ 18 → b < 2 ^ 18 → bit_and a b % 2 ^ 18 ≡ logical_product a b
logical_product_is a b h k = and_mod a b 18 ∙ sym (bitwise bit_and (λ x y. x && y) and_is_bitwise 18 a b)

pub logical_difference_is : (a b : ℕ) → a < 2 ^ 18 → b < 2 ^ 18 → bit_xor a b % 2 ^ 18 ≡ logical_difference a b
logical_difference_is a b h k = xor_mod a b 18 ∙ sym (bitwise bit_xor (λ x y. if x then not y else y) xor_is_bitwise 18 a b)

pub selective_clear_is : (a b : ℕ) → a < 2 ^ 18 → b < 2 ^ 18 → bit_and a (2 ^ 18 - 1 - b) % 2 ^ 18 ≡ selective_clear a b
selective_clear_is a b h k =
    let law = bitwise (λ x y. x - bit_and x y) (λ x y. x && not y) less_is_bitwise 18 a b in
    let both : bit_and (2 ^ 18 - 1 - b) a + bit_and b a ≡ a = and-not 18 b a k h in
    let turn : bit_and a (2 ^ 18 - 1 - b) ≡ bit_and (2 ^ 18 - 1 - b) a = and_comm a (2 ^ 18 - 1 - b) in
    let swap : bit_and a b ≡ bit_and b a = and_comm a b in
    let x = small_mod a (2 ^ 18) h in
    let y = small_mod b (2 ^ 18) k in
    let told : selective_clear a b ≡ a - bit_and a b = law ∙ rw (x, y) refl in
    rw told (omega arith)
