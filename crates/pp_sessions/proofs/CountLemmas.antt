-- What steps did, counted.
use Rattle.std.proofs.Common.{◌≡◌, ◌+◌, cond, List, [], ◌∷◌, length, refl, arith}
use Rattle.std.specs.Prelude.{count_by}
use Rattle.std.proofs.lemmas.List.Sums.{sum_by-cons}
use Rattle.pp_processor.specs.declared.outcome.Outcome.{Outcome}
use Rattle.pp_run.specs.StepCounts.{is_at_rest, is_held, is_moved}

-- each outcome is counted once
pub three_counts : (os : List Outcome) → count_by is_moved os + count_by is_held os + count_by is_at_rest os ≡ length os
three_counts [] = refl
three_counts (o ∷ os) =
    let moved = sum_by-cons (λ (x : Outcome). cond (is_moved x) 1 0) o os in
    let held = sum_by-cons (λ (x : Outcome). cond (is_held x) 1 0) o os in
    let rest = sum_by-cons (λ (x : Outcome). cond (is_at_rest x) 1 0) o os in
    omega (arith, moved, held, rest, one o, three_counts os)
  where
    one : (x : Outcome) → cond (is_moved x) 1 0 + cond (is_held x) 1 0 + cond (is_at_rest x) 1 0 ≡ 1
    one x = grind arith
