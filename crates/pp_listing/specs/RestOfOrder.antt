-- What is left of an order after some of its steps: in the order of what is left, a run goes on as
-- it would have gone on itself.
use Rattle.std.specs.Prelude.{ℕ, ◌+◌, ◌-◌, ◌*◌, ◌/◌, List, ◌++◌, drop, length}
use Rattle.pp_numbers.specs.Profile.{processors_in}
use Rattle.pp_numbers.specs.declared.profile.Profile.{Profile}
use Rattle.pp_machine.specs.Run.{barrel}

-- the turns of all rounds of the barrel that have begun after so many turns
abbrev pub turns_of_rounds : Profile → ℕ → ℕ
turns_of_rounds profile turns =
    (turns + (processors_in profile - 1)) / processors_in profile * processors_in profile

-- the processors of the steps that are left after so many: those of a list up to its end, and past
-- that those of the round of the barrel that has begun, up to its end
unfoldable pub order_left : List ℕ → Profile → ℕ → List ℕ
order_left first profile steps =
    drop steps (first ++ barrel profile (turns_of_rounds profile (steps - length first)))
