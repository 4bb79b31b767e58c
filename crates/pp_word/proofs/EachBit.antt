-- What shifts and logic do to each bit.
use Rattle.std.proofs.Common.{◌≡◌, ℕ, zero, suc, ◌+◌, ◌-◌, ◌%◌, ◌<◌, ◌≤◌, Bool, true, false, not, List, [], ◌∷◌, ◌++◌, map, zip, take, drop, replicate, min, length, get_or, refl, sym, ◌∙◌, arith, ◌⊎◌, inl, inr, nat_lt, lt-ltb, le-ltb}
use Rattle.std.proofs.lemmas.List.{get_or_append_left, get_or-append_right, get_or-drop, get_or-take, get_or-map, get_or_past, length-drop, length-take, length-replicate, length-map}
use Rattle.std.proofs.Math.ListN.{length-append}
use Rattle.pp_word.specs.Bits.{lowest_bits, number_of, bits_of, bit, shift, rotation, right_shift, combination, complement}
use Rattle.pp_word.proofs.BitsLemmas.{length-lowest_bits}

-- the bits of a number that was made of bits
lowest_bits-number_of : (bs : List Bool) → lowest_bits (length bs) (number_of bs) ≡ bs
unfolding lowest_bits
lowest_bits-number_of [] = refl
lowest_bits-number_of (true ∷ bs) = grind (arith, lowest_bits-number_of bs)
lowest_bits-number_of (false ∷ bs) = grind (arith, lowest_bits-number_of bs)

length-bits_of : (a : ℕ) → length (bits_of a) ≡ 18
length-bits_of a = length-lowest_bits 18 a

bit-number_of : (bs : List Bool) (i : ℕ) → length bs ≡ 18 → bit (number_of bs) i ≡ get_or bs i false
bit-number_of bs i long = grind (arith, lowest_bits-number_of)

-- logic, bit by bit
abbrev pairwise : (Bool → Bool → Bool) → List Bool → List Bool → List Bool
pairwise f xs ys = map (λ pair. f pair.0 pair.1) (zip xs ys)

length-pairwise : (f : Bool → Bool → Bool) (xs ys : List Bool) → length xs ≡ length ys → length (pairwise f xs ys) ≡ length xs
length-pairwise f [] ys e = refl
length-pairwise f (x ∷ xs) [] e = sym e
length-pairwise f (x ∷ xs) (y ∷ ys) e = let rest = length-pairwise f xs ys (omega (arith, e)) in omega (arith, rest)

get_or-pairwise : (f : Bool → Bool → Bool) (xs ys : List Bool) (i : ℕ) → length xs ≡ length ys → i < length xs → get_or (pairwise f xs ys) i false ≡ f (get_or xs i false) (get_or ys i false)
get_or-pairwise f [] ys i e h = absurd (omega arith)
get_or-pairwise f (x ∷ xs) [] i e h = absurd (omega (arith, e))
get_or-pairwise f (x ∷ xs) (y ∷ ys) zero e h = refl
get_or-pairwise f (x ∷ xs) (y ∷ ys) (suc i) e h = get_or-pairwise f xs ys i (omega (arith, e)) (omega (arith, h))

pub bit-combination : (f : Bool → Bool → Bool) (a b i : ℕ) → i < 18 → bit (combination f a b) i ≡ f (bit a i) (bit b i)
bit-combination f a b i h = grind (arith, length-bits_of, pairwise, length-pairwise, bit-number_of, get_or-pairwise)

pub bit-complement : (a i : ℕ) → i < 18 → bit (complement a) i ≡ not (bit a i)
bit-complement a i h = grind (arith, length-bits_of, length-map, bit-number_of, get_or-map)

-- which side of a seam a bit is on
below_or_not : (i r : ℕ) → (i < r) ⊎ (r ≤ i)
below_or_not i r = grind arith

-- a rotation by t bits, in front of the seam and behind it
get_or-rotation : (bs : List Bool) (t r i j : ℕ) → length bs ≡ 18 → r + t ≡ 18 → i < 18 → ((i < r) × (j ≡ i + t)) ⊎ ((r ≤ i) × (j ≡ i - r)) → get_or (drop r bs ++ take r bs) j false ≡ get_or bs i false
get_or-rotation bs t r i j long ends h (inl front) = grind (arith, length-drop, get_or-append_right, get_or-take)
get_or-rotation bs t r i j long ends h (inr behind) = grind (arith, length-drop, get_or_append_left, get_or-drop)

length-rotation : (bs : List Bool) (r : ℕ) → length bs ≡ 18 → r ≤ 18 → length (drop r bs ++ take r bs) ≡ 18
length-rotation bs r long h = grind (arith, length-append, length-drop, length-take)

-- what a left shift does to each bit
abbrev pub RotatesBits : ℕ → ℕ → ℕ → Type 0
RotatesBits word d new = (i : ℕ) → i < 18 → bit new ((i + d) % 18) ≡ bit word i

-- what a right shift does to each bit: from past the uppermost comes 0
abbrev pub ShiftsBitsRight : ℕ → ℕ → ℕ → Type 0
ShiftsBitsRight word k new = (i : ℕ) → i < 18 → bit new i ≡ bit word (i + k)

rotates : (a d : ℕ) → RotatesBits a d (number_of (rotation d (bits_of a)))
rotates a d i h =
    let la = length-bits_of a in
    let r = 18 - d % 18 in
    let t = d % 18 in
    let ends : 18 - d % 18 + d % 18 ≡ 18 = omega arith in
    let where_to : ((i < 18 - d % 18) × ((i + d) % 18 ≡ i + d % 18)) ⊎ ((18 - d % 18 ≤ i) × ((i + d) % 18 ≡ i - (18 - d % 18))) =
    elim (below_or_not i (18 - d % 18)) [ inl low ↦ inl (low, omega arith) | inr high ↦ inr (high, omega arith) ] in
    bit-number_of (rotation d (bits_of a)) ((i + d) % 18) (length-rotation (bits_of a) (18 - d % 18) la (omega arith))
    ∙ get_or-rotation (bits_of a) (d % 18) (18 - d % 18) i ((i + d) % 18) la ends h where_to

-- a right shift
get_or-right_shift : (bs : List Bool) (k i : ℕ) → length bs ≡ 18 → i < 18 → (i < 18 - k) ⊎ (18 - k ≤ i) → get_or (right_shift k bs) i false ≡ get_or bs (i + k) false
get_or-right_shift bs k i long h (inl low) = grind (arith, length-drop, get_or_append_left, min, get_or-drop)
get_or-right_shift bs k i long h (inr high) =
    let ld : length (drop k bs) ≡ 18 - k = length-drop k bs ∙ omega (arith, long) in
    get_or-append_right (drop k bs) (replicate (min k 18) false) (18 - k) i false ld high
    ∙ none (min k 18) (i - (18 - k))
    ∙ sym (get_or_past bs (i + k) false (omega (arith, long)))
  where
    none : (n j : ℕ) → get_or (replicate n false) j false ≡ false
    none zero j = refl
    none (suc n) zero = refl
    none (suc n) (suc j) = none n j

length-right_shift : (bs : List Bool) (k : ℕ) → length bs ≡ 18 → length (right_shift k bs) ≡ 18
length-right_shift bs k long = grind (arith, length-append, min, length-drop, length-replicate)

shifts_right : (a k : ℕ) → ShiftsBitsRight a k (number_of (right_shift k (bits_of a)))
shifts_right a k i h = grind (arith, length-bits_of, bit-number_of, length-right_shift, get_or-right_shift, below_or_not)

-- what SHN does to each bit, left and right
pub bits_of_left_shift : (a d new : ℕ) → new ≡ shift a d → d < 32 → RotatesBits a d new
bits_of_left_shift a d new value left i h = grind (arith, nat_lt, lt-ltb, rotates)

pub bits_of_right_shift : (a d new : ℕ) → new ≡ shift a d → 32 ≤ d → ShiftsBitsRight a (63 - d) new
bits_of_right_shift a d new value right i h = grind (arith, nat_lt, le-ltb, shifts_right)
