-- How many steps of a run have met a condition.
use Rattle.std.proofs.Common.{◌≡◌, ◌≢◌, ℕ, zero, suc, ◌<◌, ◌≤◌, ◌⊎◌, Bool, true, false, cond, IsTrue, List, length, refl, ap, subst, inl, inr, arith}
use Rattle.std.specs.Prelude.{◌↔◌}
use Rattle.std.proofs.lemmas.Bool.{cases_lt}
use Rattle.pp_machine.specs.MachineState.{MachineState}
use Rattle.pp_run.specs.RunSteps.{next_step}
use Rattle.pp_condition.specs.Condition.{Meets}
use Rattle.pp_condition.specs.Until.{HaveMet, IsEndOf, meets, none, passes}
use Rattle.pp_condition.specs.declared.{condition.Condition.Condition, until.Until.Until}

-- so many have, and no other number
pub one_count : (condition : Condition) (steps : List ℕ) (m : MachineState) (done times other : ℕ) → HaveMet condition steps m done times → HaveMet condition steps m done other → times ≡ other
one_count condition steps m zero zero zero none none = refl
one_count condition steps m zero zero (suc other) _ have = elim have [ ]
one_count condition steps m zero (suc times) other have _ = elim have [ ]
one_count condition steps m (suc done) (suc times) (suc other) (meets _ _ before met) (meets _ _ then too) = ap suc (one_count condition steps m done times other before then)
one_count condition steps m (suc done) (suc times) other (meets _ _ before met) (passes _ _ then not) = absurd (not met)
one_count condition steps m (suc done) times (suc other) (passes _ _ before not) (meets _ _ then met) = absurd (not met)
one_count condition steps m (suc done) times other (passes _ _ before not) (passes _ _ then too) = one_count condition steps m done times other before then

-- ---- a run that goes on

-- so many have met it, fewer than are asked for at each earlier moment
pub record HasRun (until : Until) (steps : List ℕ) (m : MachineState) (done times : ℕ) : Type 0 where
  pub have : HaveMet until.condition steps m done times
  pub few : times ≤ until.times
  pub first : (earlier other : ℕ) → earlier < done → HaveMet until.condition steps m earlier other → other < until.times

pub not_begun : (until : Until) (steps : List ℕ) (m : MachineState) → HasRun until steps m 0 0
not_begun until steps m = record { have = none; few = omega arith; first = λ earlier other before. absurd (omega (arith, before)) }

earlier_by : (until : Until) (steps : List ℕ) (m : MachineState) (done times : ℕ) → HasRun until steps m done times → times ≢ until.times → (earlier other : ℕ) → earlier < suc done → (earlier < done) ⊎ (done ≤ earlier) → HaveMet until.condition steps m earlier other → other < until.times
earlier_by until steps m done times so_far more earlier other before (inl below) have = so_far.first earlier other below have
earlier_by until steps m done times so_far more earlier other before (inr past) have =
    let here : earlier ≡ done = omega (arith, before, past) in
    let same : times ≡ other = one_count until.condition steps m done times other so_far.have (subst (λ (k : ℕ). HaveMet until.condition steps m k other) here have) in
    grind (arith, same, so_far.few, more)

pub one_more : (until : Until) (steps : List ℕ) (m : MachineState) (done times : ℕ) (meets_it : Bool) → HasRun until steps m done times → times ≢ until.times → IsTrue meets_it ↔ Meets until.condition (next_step steps m done)
    → HasRun until steps m (suc done) (cond meets_it (suc times) times)
one_more until steps m done times true so_far more is = record {
  have = meets done times so_far.have (is.0 refl);
  few = grind (arith, so_far.few, more);
  first = λ earlier other before. earlier_by until steps m done times so_far more earlier other before (cases_lt earlier done);
}
one_more until steps m done times false so_far more is = record {
  have = passes done times so_far.have (λ met. let bad : false ≡ true = is.1 met in absurd (cc));
  few = so_far.few;
  first = λ earlier other before. earlier_by until steps m done times so_far more earlier other before (cases_lt earlier done);
}

pub renumbered : (until : Until) (steps : List ℕ) (m : MachineState) (done times other count : ℕ) → HasRun until steps m done times → done ≡ other → times ≡ count → HasRun until steps m other count
renumbered until steps m done times other count so_far same so_many =
    subst (λ (k : ℕ). HasRun until steps m k count) same (subst (λ (k : ℕ). HasRun until steps m done k) so_many so_far)

pub ended : (until : Until) (steps : List ℕ) (m : MachineState) (done times : ℕ) → HasRun until steps m done times → done ≤ length steps → times ≡ until.times → IsEndOf until steps m done
ended until steps m done times so_far within all = record {
  within = within;
  met = λ _. subst (λ (k : ℕ). HaveMet until.condition steps m done k) all so_far.have;
  first = so_far.first;
}

pub over : (until : Until) (steps : List ℕ) (m : MachineState) (done times : ℕ) → HasRun until steps m done times → done ≡ length steps → IsEndOf until steps m done
over until steps m done times so_far is = record {
  within = omega (arith, is);
  met = λ before. absurd (omega (arith, before, is));
  first = so_far.first;
}

-- ---- the law

some_count : (condition : Condition) (steps : List ℕ) (m : MachineState) (done : ℕ) → (((times : ℕ) → HaveMet condition steps m done times → ⊥) → ⊥)
some_count condition steps m zero never = never 0 none
some_count condition steps m (suc done) never =
    some_count condition steps m done (λ times have.
    never times (passes done times have (λ met. never (suc times) (meets done times have met))))

pub before_the_first : (until : Until) (steps : List ℕ) (m : MachineState) (done step : ℕ) → until.times ≡ 1 → IsEndOf until steps m done → suc step < done → ¬ Meets until.condition (next_step steps m step)
before_the_first until steps m done step once end before met =
    some_count until.condition steps m step (λ times have.
    omega (arith, once, end.first (suc step) (suc times) before (meets step times have met)))

last_by : (until : Until) (steps : List ℕ) (m : MachineState) (step times : ℕ) → times ≡ until.times → HaveMet until.condition steps m (suc step) times → IsEndOf until steps m (suc step) → Meets until.condition (next_step steps m step)
last_by until steps m step (suc times) is (meets _ _ before met) end = met
last_by until steps m step times is (passes _ _ before not) end = absurd (omega (arith, is, end.first step times (omega arith) before))

pub last_meets : (until : Until) (steps : List ℕ) (m : MachineState) (step : ℕ) → IsEndOf until steps m (suc step) → suc step < length steps → Meets until.condition (next_step steps m step)
last_meets until steps m step end before = last_by until steps m step until.times refl (end.met before) end

not_later : (until : Until) (steps : List ℕ) (m : MachineState) (done other : ℕ) → IsEndOf until steps m done → IsEndOf until steps m other → ¬ (done < other)
not_later until steps m done other end later before =
    omega (arith, later.first done until.times before (end.met (omega (arith, before, later.within))))

pub one_end : (until : Until) (steps : List ℕ) (m : MachineState) (done other : ℕ) → IsEndOf until steps m done → IsEndOf until steps m other → done ≡ other
one_end until steps m done other end too = elim (cases_lt done other) [
  | inl before ↦ absurd (not_later until steps m done other end too before)
  | inr past ↦ elim (cases_lt other done) [
    | inl before ↦ absurd (not_later until steps m other done too end before)
    | inr same ↦ omega (arith, past, same)
  ]
]
