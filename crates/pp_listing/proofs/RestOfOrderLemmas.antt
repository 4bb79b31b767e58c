-- What is left of an order, and the steps in its order.
use Rattle.std.proofs.Common.{◌≡◌, ℕ, suc, ◌+◌, ◌-◌, ◌%◌, ◌≤◌, List, [], ◌∷◌, ◌++◌, append-nil, append_assoc, drop, length, take, sym, ap, ◌∙◌, inl, inr, arith}
use Rattle.std.specs.Prelude.{min}
use Rattle.std.proofs.lemmas.Bool.{cases_lt}
use Rattle.std.proofs.lemmas.List.{drop_all, drop-append-le, drop-take, length-append, take-append-drop, take-append-le, take-take}
use Rattle.pp_numbers.specs.Profile.{processor_in_turn, processors_in}
use Rattle.pp_numbers.specs.declared.profile.Profile.{Profile}
use Rattle.pp_machine.specs.MachineState.{MachineState}
use Rattle.pp_machine.specs.Run.{barrel, run, run_order}
use Rattle.pp_machine.proofs.OrderLemmas.{take_barrel}
use Rattle.pp_machine.proofs.RunLemmas.{length-barrel, run-both}
use Rattle.pp_run.proofs.BarrelLemmas.{barrel_again}
use Rattle.pp_listing.specs.RestOfOrder.{order_left, turns_of_rounds}

-- ---- lists

take_past : (xs ys : List ℕ) (n : ℕ) → take (length xs + n) (xs ++ ys) ≡ xs ++ take n ys
take_past [] ys n = let here : 0 + n ≡ n = omega arith in ap (λ k. take k ys) here
take_past (x ∷ xs) ys n = let here : suc (length xs) + n ≡ suc (length xs + n) = omega arith in
    ap (λ k. take k (x ∷ (xs ++ ys))) here ∙ ap (λ l. x ∷ l) (take_past xs ys n)

drop_past : (xs ys : List ℕ) (n : ℕ) → drop (length xs + n) (xs ++ ys) ≡ drop n ys
drop_past [] ys n = let here : 0 + n ≡ n = omega arith in ap (λ k. drop k ys) here
drop_past (x ∷ xs) ys n = let here : suc (length xs) + n ≡ suc (length xs + n) = omega arith in
    ap (λ k. drop k (x ∷ (xs ++ ys))) here ∙ drop_past xs ys n

take_both : (n m : ℕ) (xs : List ℕ) → take (n + m) xs ≡ take n xs ++ take m (drop n xs)
take_both n m xs =
    sym (take-append-drop n (take (n + m) xs))
    ∙ ap (λ ys. ys ++ drop n (take (n + m) xs)) (take-take n (n + m) xs (omega arith))
    ∙ ap (λ ys. take n xs ++ ys) (drop-take n m xs)

-- ---- rounds of the barrel

pub rounds_reach : (p : Profile) (turns : ℕ) → turns ≤ turns_of_rounds p turns
rounds_reach p turns = grind arith

no_round : (p : Profile) → turns_of_rounds p 0 ≡ 0
no_round p = grind arith

are_whole : (p : Profile) (turns : ℕ) → turns_of_rounds p turns % processors_in p ≡ 0
are_whole p turns = grind arith

-- ---- an order, however many turns of the barrel follow its list

prefix : (first : List ℕ) (p : Profile) (steps turns : ℕ) → steps ≤ length first + turns → take steps (first ++ barrel p turns) ≡ run_order first p steps
unfolding run_order
prefix first p steps turns within = elim (cases_lt (length first) steps) [
  | inl more ↦
      let k = steps - length first in
      let here : steps ≡ length first + k = omega (arith, more) in
      ap (λ n. take n (first ++ barrel p turns)) here ∙ take_past first (barrel p turns) k
      ∙ ap (λ ns. first ++ ns) (take_barrel p turns k (omega (arith, within, more)) ∙ sym (take_barrel p steps k (omega arith)))
      ∙ sym (take_past first (barrel p steps) k) ∙ ap (λ n. take n (first ++ barrel p steps)) (sym here)
  | inr few ↦ grind (arith, take-append-le)
]

-- a run goes on in the order of what is left
pub goes_on : (first : List ℕ) (p : Profile) (steps more : ℕ) → run_order first p (steps + more) ≡ run_order first p steps ++ run_order (order_left first p steps) p more
unfolding order_left
goes_on first p steps more =
    let begun = steps - length first in
    let whole = turns_of_rounds p begun in
    let all = first ++ barrel p whole in
    let rest = barrel p (steps + more) in
    let reach = rounds_reach p begun in
    let long : length all ≡ length first + whole = length-append first (barrel p whole) ∙ ap (λ k. length first + k) (length-barrel p whole) in
    let within : steps ≤ length all = omega (arith, long, reach) in
    sym (prefix first p (steps + more) (whole + (steps + more)) (omega arith))
    ∙ ap (λ ns. take (steps + more) (first ++ ns)) (barrel_again p whole (steps + more) (are_whole p begun))
    ∙ ap (λ ns. take (steps + more) ns) (sym (append_assoc first (barrel p whole) rest))
    ∙ take_both steps more (all ++ rest)
    ∙ ap (λ ns. ns ++ take more (drop steps (all ++ rest))) (take-append-le steps all rest within ∙ prefix first p steps whole (omega (arith, reach)))
    ∙ ap (λ ns. run_order first p steps ++ take more ns) (drop-append-le steps all rest within)
    ∙ ap (λ ns. run_order first p steps ++ ns) (prefix (drop steps all) p more (steps + more) (omega arith))

pub run_goes_on : (first : List ℕ) (p : Profile) (steps more : ℕ) (m : MachineState) → run (run_order first p (steps + more)) m ≡ run (run_order (order_left first p steps) p more) (run (run_order first p steps) m)
run_goes_on first p steps more m = ap (λ ns. run ns m) (goes_on first p steps more) ∙ run-both (run_order first p steps) (run_order (order_left first p steps) p more) m

-- ---- one turn of it after another

pub none_so_far : (first : List ℕ) (p : Profile) (made turns : ℕ) → drop made first ≡ drop made first ++ drop turns (barrel p turns)
none_so_far first p made turns = grind (arith, append-nil, drop_all, length-barrel)

pub one_more : (p : Profile) (left more rest : List ℕ) (turns turn n : ℕ) → turns ≤ turn → left ≡ rest ++ drop turns (barrel p turn) → n ≡ processor_in_turn p turn → more ≡ left ++ n ∷ []
    → more ≡ rest ++ drop turns (barrel p (turn + 1))
one_more p left more rest turns turn n within so_far is pushed = grind (arith, append_assoc, drop-append-le, length-barrel)

pub all_left : (first : List ℕ) (p : Profile) (steps made turns : ℕ) → made ≡ min (length first) steps → turns ≡ steps - made
    → drop made first ++ drop turns (barrel p (turns_of_rounds p turns)) ≡ order_left first p steps
unfolding order_left
all_left first p steps made turns is left = elim (cases_lt (length first) steps) [
  | inl more ↦ grind (arith, drop_all, drop_past)
  | inr few ↦ grind (arith, no_round, append-nil)
]
