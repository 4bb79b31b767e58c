-- What a text tells: a thing is told by its text if no other has that text, whatever follows it.
use Rattle.std.proofs.Common.{◌≡◌, ◌∙◌, ℕ, zero, suc, ◌+◌, ◌*◌, ◌/◌, ◌%◌, ◌^◌, ◌<◌, Bool, true, List, [], ◌∷◌, ◌++◌, length, refl, sym, ap, arith, inl, inr}
use Rattle.std.specs.Prelude.{get_or, not}
use Rattle.std.specs.List.{list_all}
use Rattle.std.proofs.Math.Nat.{pow-suc}
use Rattle.std.proofs.lemmas.Bool.{and_from, and_parts, cases_eq, le-leb, lt-ltb, ne_eqb}
use Rattle.std.proofs.lemmas.List.Folds.{list_all-append}
use Rattle.std.proofs.lemmas.List.Sums.{fold-append}
use Rattle.std.proofs.lemmas.Nat.{div-add-mod'}
use Rattle.pp_word.specs.Numeral.{digit, is_digit, octal, short_decimal, unpadded, value_of}
use Rattle.pp_word.proofs.NumeralLemmas.{Pass, length_digits, octal_numeral}

-- things that fit are told by their texts, whatever follows
abbrev pub Tells : {X : Type 0} → (X → Type 0) → (X → List ℕ) → Type 0
Tells {X} Fits text = (x y : X) (r s : List ℕ) → Fits x → Fits y → text x ++ r ≡ text y ++ s → (x ≡ y) × (r ≡ s)

-- ---- parts of a text

-- first parts of one length
pub parts_tell : (a b r s : List ℕ) → length a ≡ length b → a ++ r ≡ b ++ s → (a ≡ b) × (r ≡ s)
parts_tell [] [] r s long e = (refl, e)
parts_tell [] (y ∷ b) r s long e = absurd (omega (arith, long))
parts_tell (x ∷ a) [] r s long e = absurd (omega (arith, long))
parts_tell (x ∷ a) (y ∷ b) r s long e =
    let same : x ≡ y = cc in
    let rest : a ++ r ≡ b ++ s = cc in
    let more = parts_tell a b r s (omega (arith, long)) rest in
    (ap (λ c. c ∷ a) same ∙ ap (λ t. y ∷ t) more.0, more.1)

-- first parts of characters that pass a test, up to one that does not
pub cut : (p : ℕ → Bool) (a b r s : List ℕ) → not (p (get_or r 0 0)) ≡ true → not (p (get_or s 0 0)) ≡ true → list_all p a ≡ true → list_all p b ≡ true → a ++ r ≡ b ++ s → (a ≡ b) × (r ≡ s)
cut p [] [] r s ends other _ _ e = (refl, e)
cut p [] (y ∷ b) r s ends other _ all e = grind (arith, and_parts)
cut p (x ∷ a) [] r s ends other all _ e = grind (arith, and_parts)
cut p (x ∷ a) (y ∷ b) r s ends other first also e =
    let same : x ≡ y = cc in
    let rest : a ++ r ≡ b ++ s = cc in
    let more = cut p a b r s ends other (and_parts (p x) (list_all p a) first).1 (and_parts (p y) (list_all p b) also).1 rest in
    (ap (λ d. d ∷ a) same ∙ ap (λ t. y ∷ t) more.0, more.1)

-- ---- numbers

pub octal_tells : (width m n : ℕ) (r s : List ℕ) → m < 8 ^ width → n < 8 ^ width → octal width m ++ r ≡ octal width n ++ s → (m ≡ n) × (r ≡ s)
octal_tells width m n r s low other e =
    let both = parts_tell (octal width m) (octal width n) r s (length_digits 8 width m ∙ sym (length_digits 8 width n)) e in
    (sym (octal_numeral width m low).value ∙ ap (value_of 8) both.0 ∙ (octal_numeral width n other).value, both.1)

-- ---- numbers without leading zeros

value_end : (characters : List ℕ) (d : ℕ) → value_of 10 (characters ++ digit d) ≡ value_of 10 characters * 10 + d
value_end characters d = grind (arith, fold-append)

pub unpadded_value : (most n : ℕ) → n < 10 ^ most → value_of 10 (unpadded most n) ≡ n
unpadded_value zero n low = omega arith
unpadded_value (suc most) n low =
    elim (cases_eq n 0) [
      | inl none ↦ rw none refl
      | inr some ↦
          let rest : n / 10 < 10 ^ most = omega (arith, pow-suc 10 most) in
          rw (ne_eqb n 0 some) (value_end (unpadded most (n / 10)) (n % 10) ∙ ap (λ (m : ℕ). m * 10 + n % 10) (unpadded_value most (n / 10) rest) ∙ div-add-mod' n 10)
    ]

pub short_decimal_value : (n : ℕ) → n < 10 ^ 20 → value_of 10 (short_decimal n) ≡ n
unfolding short_decimal
short_decimal_value n low = value_end (unpadded 19 (n / 10)) (n % 10) ∙ ap (λ (m : ℕ). m * 10 + n % 10) (unpadded_value 19 (n / 10) (omega (arith, low))) ∙ div-add-mod' n 10

-- each digit passes what all digits pass
pub pass_more : (p : ℕ → Bool) (a b : List ℕ) → list_all p a ≡ true → list_all p b ≡ true → list_all p (a ++ b) ≡ true
pass_more p a b one other = list_all-append p a b ∙ and_from _ _ one other

pub unpadded_pass : (p : ℕ → Bool) → Pass 10 p → (most n : ℕ) → list_all p (unpadded most n) ≡ true
unpadded_pass p pass zero n = refl
unpadded_pass p pass (suc most) n = grind (arith, cases_eq, ne_eqb, pass_more, unpadded_pass p pass most (n / 10))

pub short_decimal_pass : (p : ℕ → Bool) → Pass 10 p → (n : ℕ) → list_all p (short_decimal n) ≡ true
unfolding short_decimal
short_decimal_pass p pass n = pass_more p (unpadded 19 (n / 10)) (digit (n % 10)) (unpadded_pass p pass 19 (n / 10)) (rw (pass (n % 10) (omega arith)) refl)

pub decimal_digit : Pass 10 (is_digit 10)
decimal_digit d low = and_from _ _ (le-leb 48 (48 + d) (omega arith)) (lt-ltb (48 + d) 58 (omega (arith, low)))
