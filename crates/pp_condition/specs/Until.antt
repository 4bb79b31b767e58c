-- Where a run ends that goes on until a condition has been met, a number of times.
use Rattle.std.specs.Prelude.{ℕ, zero, suc, ◌<◌, ◌≤◌, List, length}
use Rattle.pp_machine.specs.MachineState.{MachineState}
use Rattle.pp_run.specs.RunSteps.{next_step}
use Rattle.pp_condition.specs.Condition.{Meets}
use Rattle.pp_condition.specs.declared.{condition.Condition.Condition, until.Until.Until}

-- of the first `done` steps of a run this many meet a condition
pub data HaveMet (condition : Condition) (steps : List ℕ) (m : MachineState) : ℕ → ℕ → Type 0 where
  none : HaveMet condition steps m zero zero
  meets : (done times : ℕ) → HaveMet condition steps m done times
      → Meets condition (next_step steps m done) → HaveMet condition steps m (suc done) (suc times)
  passes : (done times : ℕ) → HaveMet condition steps m done times
      → ¬ Meets condition (next_step steps m done) → HaveMet condition steps m (suc done) times

-- THE END of a run of these steps: it is over, or as many of its steps as are asked for have met
-- the condition; and at no earlier moment had as many
pub record IsEndOf (until : Until) (steps : List ℕ) (m : MachineState) (done : ℕ) : Type 0 where
  pub within : done ≤ length steps
  pub met : done < length steps → HaveMet until.condition steps m done until.times
  pub first : (earlier times : ℕ) → earlier < done
      → HaveMet until.condition steps m earlier times → times < until.times
