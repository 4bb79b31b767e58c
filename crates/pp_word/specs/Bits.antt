-- Words as bits; bit 0 is the lowest, bit 17 (decimal) the uppermost of 18. Values of d are octal,
-- counts decimal. (Manual 60100000, peripheral processors: SHN, LMN, LPN, SCN, LCN, LMC, LPC.)
use Rattle.std.specs.Prelude.{ℕ, ◌+◌, ◌-◌, ◌*◌, ◌/◌, ◌%◌, ◌==◌, nat_lt, if◌then◌else◌, Bool, false, List, [], ◌∷◌, ◌++◌, map, take, drop, replicate, min, not, ◌&&◌, zero, suc, slice_index_or, zip}

-- the lowest bits of a number as truth values, bit 0 first
unfoldable pub lowest_bits : ℕ → ℕ → List Bool
lowest_bits zero n = []
lowest_bits (suc width) n = (n % 2 == 1) ∷ lowest_bits width (n / 2)

-- the number whose bits these are
abbrev pub number_of : List Bool → ℕ
number_of [] = 0
number_of (b ∷ bs) = (if b then 1 else 0) + 2 * number_of bs

abbrev pub bits_of : ℕ → List Bool
bits_of word = lowest_bits 18 word

-- whether a bit of an 18-bit word is 1; none past the uppermost is
abbrev pub bit : ℕ → ℕ → Bool
bit word i = slice_index_or (bits_of word) i false

-- a rotation to the left by d: the d uppermost bits come back in at the low end
abbrev pub rotation : ℕ → List Bool → List Bool
rotation d bs = drop (18 - d % 18) bs ++ take (18 - d % 18) bs

-- a shift to the right by k: the low end is dropped, and zeros come in at the upper end
abbrev pub right_shift : ℕ → List Bool → List Bool
right_shift k bs = drop k bs ++ replicate (min k 18) false

-- SHN: left and round by d for d 00 to 37, right by 77 - d for d 40 to 77
abbrev pub shift : ℕ → ℕ → ℕ
shift word d = if nat_lt d 0o40 then number_of (rotation d (bits_of word))
    else number_of (right_shift (0o77 - d) (bits_of word))

abbrev pub complement : ℕ → ℕ
complement word = number_of (map not (bits_of word))

-- an 18-bit word from two, bit by bit
abbrev pub combination : (Bool → Bool → Bool) → ℕ → ℕ → ℕ
combination f a b = number_of (map (λ pair. f pair.0 pair.1) (zip (bits_of a) (bits_of b)))

-- LPN: 1 where both are
abbrev pub logical_product : ℕ → ℕ → ℕ
logical_product a b = combination (λ x y. x && y) a b

-- LMN: 1 where exactly one is
abbrev pub logical_difference : ℕ → ℕ → ℕ
logical_difference a b = combination (λ x y. if x then not y else y) a b

-- SCN: 1 where the first is and the second is not
abbrev pub selective_clear : ℕ → ℕ → ℕ
selective_clear a b = combination (λ x y. x && not y) a b
