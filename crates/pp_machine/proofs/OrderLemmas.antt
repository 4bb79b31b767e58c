-- The order of a run, and its parts: of a list as many processors as there are steps, and then of the
-- barrel. A run of two lists, one after the other.
use Rattle.std.proofs.Common.{◌≡◌, ℕ, zero, suc, ◌+◌, ◌-◌, ◌<◌, ◌≤◌, List, [], ◌∷◌, ◌++◌, take, length, get_or, sym, ap, ◌∙◌, arith, inl, inr, add-one, append-nil}
use Rattle.std.specs.Prelude.{min}
use Rattle.std.proofs.lemmas.Bool.{cases_lt}
use Rattle.std.proofs.lemmas.List.{get_or-append-add, get_or_append_left, get_or_push, get_or-take, length-append, length-take, take-append-le, take_all}
use Rattle.pp_machine.specs.MachineState.{MachineState}
use Rattle.pp_numbers.specs.Profile.{processor_in_turn}
use Rattle.pp_numbers.specs.declared.profile.Profile.{Profile}
use Rattle.pp_machine.specs.Rounds.{IsEventAt}
use Rattle.pp_machine.specs.Run.{IsCutAtEvent, barrel, run, run_order}
use Rattle.pp_machine.proofs.RunLemmas.{length-barrel, run-both}

-- ---- the turns of the barrel

-- the first of them
pub take_barrel : (p : Profile) (turns t : ℕ) → t ≤ turns → take t (barrel p turns) ≡ barrel p t
take_barrel p zero t low = grind arith
take_barrel p (suc turns) t low = elim (cases_lt t (suc turns)) [
  | inl below ↦ grind (arith, take-append-le, length-barrel, take_barrel p turns t (omega (arith, below)))
  | inr past ↦
      let all : t ≡ suc turns = omega (arith, low, past) in
      take_all t (barrel p (suc turns)) (omega (arith, past, length-barrel p (suc turns))) ∙ ap (barrel p) (sym all)
]

-- and each
pub turn_of_barrel : (p : Profile) (turns t : ℕ) → t < turns → get_or (barrel p turns) t 0 ≡ processor_in_turn p t
turn_of_barrel p turns t before =
    sym (get_or-take (t + 1) (barrel p turns) t 0 (omega arith))
    ∙ ap (λ (ns : List ℕ). get_or ns t 0) (take_barrel p turns (t + 1) (omega (arith, before)))
    ∙ ap (λ (k : ℕ). get_or (barrel p k) t 0) (add-one t)
    ∙ get_or_push (barrel p t) (processor_in_turn p t) 0 t (length-barrel p t)

-- a run of them that was cut, as one of a list
pub barrel_cut : (turns done : ℕ) (m : MachineState) → IsEventAt turns m done → IsCutAtEvent (barrel m.profile turns) m done
barrel_cut turns done m at_event = grind (arith, length-barrel, turn_of_barrel, take_barrel)

pub barrel_made : (turns done : ℕ) (m n : MachineState) → IsEventAt turns m done → n ≡ run (barrel m.profile done) m → n ≡ run (take done (barrel m.profile turns)) m
barrel_made turns done m n at_event made = made ∙ ap (λ ns. run ns m) (sym (take_barrel m.profile turns done (omega (arith, at_event.0))))

-- ---- the order of a run

pub length-run_order : (first : List ℕ) (p : Profile) (steps : ℕ) → length (run_order first p steps) ≡ steps
unfolding run_order
length-run_order first p steps = grind (arith, length-take, length-append, length-barrel)

take-append-add : (xs ys : List ℕ) (n : ℕ) → take (length xs + n) (xs ++ ys) ≡ xs ++ take n ys
take-append-add [] ys n = let here : 0 + n ≡ n = omega arith in ap (λ k. take k ys) here
take-append-add (x ∷ xs) ys n = let here : suc (length xs) + n ≡ suc (length xs + n) = omega arith in
    ap (λ k. take k (x ∷ (xs ++ ys))) here ∙ ap (λ l. x ∷ l) (take-append-add xs ys n)

-- as much of the list as there are steps, and the rest of the barrel
pub order_parts : (first : List ℕ) (p : Profile) (steps count : ℕ) → count ≡ min (length first) steps
    → run_order first p steps ≡ take count first ++ barrel p (steps - count)
unfolding run_order
order_parts first p steps count is = elim (cases_lt (length first) steps) [
  | inl more ↦
      let here : count ≡ length first = omega (arith, is, more) in
      let all : steps ≡ length first + (steps - count) = omega (arith, here, more) in
      ap (λ k. take k (first ++ barrel p steps)) all
      ∙ take-append-add first (barrel p steps) (steps - count)
      ∙ ap (λ ns. first ++ ns) (take_barrel p steps (steps - count) (omega arith))
      ∙ ap (λ ns. ns ++ barrel p (steps - count)) (sym (take_all count first (omega (arith, here))))
  | inr past ↦ grind (arith, take-append-le, append-nil)
]

-- without a list, the turns of the barrel
pub order_of_barrel : (p : Profile) (steps : ℕ) → run_order [] p steps ≡ barrel p steps
unfolding run_order
order_of_barrel p steps = take_all steps (barrel p steps) (omega (arith, length-barrel p steps))

-- ---- a run of two lists, one after the other

-- which was cut in the first
pub made_of_first : (xs ys : List ℕ) (done : ℕ) (m n : MachineState) → done < length xs → n ≡ run (take done xs) m → n ≡ run (take done (xs ++ ys)) m
made_of_first xs ys done m n few made = made ∙ ap (λ ns. run ns m) (sym (take-append-le done xs ys (omega (arith, few))))

pub cut_in_first : (xs ys : List ℕ) (done : ℕ) (m : MachineState) → IsCutAtEvent xs m done → IsCutAtEvent (xs ++ ys) m done
cut_in_first xs ys done m (few, event) = grind (arith, length-append, get_or_append_left, take-append-le)

pub made_of_second : (xs ys : List ℕ) (count done : ℕ) (m n o : MachineState) → count ≡ length xs → n ≡ run xs m → o ≡ run (take done ys) n → o ≡ run (take (count + done) (xs ++ ys)) m
made_of_second xs ys count done m n o is first made = grind (arith, run-both, take-append-add)

pub cut_in_second : (xs ys : List ℕ) (count done : ℕ) (m n : MachineState) → count ≡ length xs → n ≡ run xs m → IsCutAtEvent ys n done → IsCutAtEvent (xs ++ ys) m (count + done)
cut_in_second xs ys count done m n is first (few, event) = grind (arith, length-append, get_or-append-add, run-both, take-append-add)

-- neither was
pub made_of_both : (xs ys : List ℕ) (m n o : MachineState) → n ≡ run xs m → o ≡ run ys n → o ≡ run (xs ++ ys) m
made_of_both xs ys m n o first second = second ∙ ap (run ys) first ∙ sym (run-both xs ys m)
