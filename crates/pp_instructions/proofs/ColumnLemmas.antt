-- Columns of fields.
use Rattle.std.proofs.Common.{◌≡◌, ℕ, ◌+◌, ◌-◌, ◌<◌, ◌≤◌, Bool, true, false, List, ◌∷◌, ◌++◌, length, sym, ap, ◌∙◌, arith, get_or}
use Rattle.std.specs.Prelude.{filter, if◌then◌else◌}
use Rattle.std.specs.List.{range_with_len}
use Rattle.std.proofs.lemmas.List.{get_or_past, length-append}
use Rattle.std.proofs.Math.Seq.{get_or-append_seam}
use Rattle.std.proofs.lemmas.List.Elements.{filter-append}
use Rattle.pp_numbers.proofs.GrowingLists.{range_more, range_append}
use Rattle.pp_instructions.specs.Column.{begins_field, column_of}

-- the places below a bound at which a test passes
abbrev pub passing : (ℕ → Bool) → ℕ → List ℕ
passing p n = filter p (range_with_len 0 n)

-- how many they are with one more
pub passing_count : (p : ℕ → Bool) (n : ℕ) → length (passing p (n + 1)) ≡ length (passing p n) + (if p n then 1 else 0)
passing_count p n = grind (arith, range_more 0 n, filter-append, length-append)

-- the next of them is at the bound, if it passes
passing_at : (p : ℕ → Bool) (n count : ℕ) → n < count → p n ≡ true → get_or (passing p count) (length (passing p n)) 0 ≡ n
passing_at p n count below passes =
    let rest : ℕ = count - (n + 1) in
    let first : n + (1 + rest) ≡ count = omega (arith, below) in
    let here : filter p (range_with_len n (1 + rest)) ≡ n ∷ filter p (range_with_len (n + 1) rest) = grind (arith, passes) in
    let parts : passing p count ≡ passing p n ++ n ∷ filter p (range_with_len (n + 1) rest) =
    ap (passing p) (sym first) ∙ ap (filter p) (range_append 0 n (1 + rest)) ∙ filter-append p (range_with_len 0 n) (range_with_len (0 + n) (1 + rest))
    ∙ ap (λ k. passing p n ++ filter p (range_with_len k (1 + rest))) (omega arith) ∙ ap (λ ks. passing p n ++ ks) here in
    ap (λ ks. get_or ks (length (passing p n)) 0) parts ∙ get_or-append_seam (passing p n) n _ 0

pub column_here : (line : List ℕ) (n place : ℕ) → place < length line → begins_field line place ≡ true → length (passing (begins_field line) place) ≡ n
    → place + 1 ≡ column_of line n
unfolding column_of
column_here line n place below begins counted = grind (arith, passing_at, below, begins, counted)

pub no_column : (line : List ℕ) (n : ℕ) → length (passing (begins_field line) (length line)) ≤ n → 1 ≡ column_of line n
unfolding column_of
no_column line n few = ap (λ k. k + 1) (sym (get_or_past (passing (begins_field line) (length line)) n 0 few))

-- how many fields begin before the next place
pub count_more : (p : ℕ → Bool) (n count : ℕ) → length (passing p n) ≡ count → p n ≡ true → length (passing p (n + 1)) ≡ count + 1
count_more p n count counted passes = passing_count p n ∙ ap (λ b. length (passing p n) + (if b then 1 else 0)) passes ∙ ap (λ m. m + 1) counted

pub count_same : (p : ℕ → Bool) (n count : ℕ) → length (passing p n) ≡ count → p n ≡ false → length (passing p (n + 1)) ≡ count + 0
count_same p n count counted fails = passing_count p n ∙ ap (λ b. length (passing p n) + (if b then 1 else 0)) fails ∙ ap (λ m. m + 0) counted
