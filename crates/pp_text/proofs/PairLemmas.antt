-- What stands in the table of two digits, which is looked through by the checker.
use Rattle.std.proofs.Common.{◌≡◌, ℕ, ◌+◌, ◌*◌, ◌/◌, ◌%◌, ◌<◌, List, [], ◌∷◌, get_or, map, refl, sym, ap, ◌∙◌, arith}
use Rattle.std.specs.List.{range_with_len}
use Rattle.std.proofs.lemmas.List.FromFn.{get_or-map-range_with_len}
use Rattle.pp_word.specs.Numeral.{digits, decimal_pairs}

-- two functions that agree below a bound, as lists
agree_below : (f g : ℕ → ℕ) (n i : ℕ) → i < n → map f (range_with_len 0 n) ≡ map g (range_with_len 0 n) → f i ≡ g i
agree_below f g n i within same =
    sym (get_or-map-range_with_len f 0 n i i 0 within (omega arith))
    ∙ ap (λ xs. get_or xs i 0) same
    ∙ get_or-map-range_with_len g 0 n i i 0 within (omega arith)

-- the two characters at a place of a table
abbrev pair_at : List ℕ → ℕ → List ℕ
pair_at pairs i = get_or pairs (2 * i) 0 ∷ get_or pairs (2 * i + 1) 0 ∷ []

both : (a b c d : ℕ) → a ≡ b → c ≡ d → ◌≡◌ {A = List ℕ} (a ∷ c ∷ []) (b ∷ d ∷ [])
both a b c d first second = ap (λ x. x ∷ c ∷ []) first ∙ ap (λ x. b ∷ x ∷ []) second

pub decimal_pair : (pairs : List ℕ) (i : ℕ) → pairs ≡ decimal_pairs → i < 100 → pair_at pairs i ≡ digits 10 2 i
unfolding decimal_pairs
decimal_pair pairs i is within =
    ap (λ ps. pair_at ps i) is
    ∙ both (get_or decimal_pairs (2 * i) 0) (48 + i / 10 % 10) (get_or decimal_pairs (2 * i + 1) 0) (48 + i % 10)
    (agree_below (λ k. get_or decimal_pairs (2 * k) 0) (λ k. 48 + k / 10 % 10) 100 i within refl)
    (agree_below (λ k. get_or decimal_pairs (2 * k + 1) 0) (λ k. 48 + k % 10) 100 i within refl)
