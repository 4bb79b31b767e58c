-- What a drawing tells of a run.
use Rattle.std.specs.Prelude.{◌≡◌, ℕ, ◌<◌, ◌≤◌, ◌==◌, ◌&&◌, Bool, false, nat_le, List, ◌++◌, Option, None, Some}
use Rattle.std.specs.List.{filter, last_or}
use Rattle.std.specs.Option.{option_map}
use Rattle.pp_run.specs.RunSteps.{RunStep}
use Rattle.pp_numbers.specs.declared.window.Window.{Window}
use Rattle.pp_draw.specs.Condition.{continues}
use Rattle.pp_draw.specs.declared.{condition.Look.Look, condition.Phase.Phase, lane.Part.Part}

abbrev pub look_in : Phase → Look
look_in phase = phase.look

-- whether a phase goes on under the look of what came last
abbrev pub continues_from : Option Phase → Phase → Bool
continues_from None next = false
continues_from (Some last) next = continues last.look next.look

-- how things stand in a turn: by the last phase that has begun
abbrev pub look_at : ℕ → List Phase → Option Look
look_at turn phases =
    option_map look_in (last_or None (filter (λ phase. nat_le phase.since turn) phases))

-- the last step of processor n up to a turn
abbrev pub last_step : ℕ → ℕ → List RunStep → Option RunStep
last_step n turn steps =
    last_or None (filter (λ step. step.processor == n && nat_le step.before.turns turn) steps)

-- a part is drawn to a turn, which is not its own, and to a place
pub record EndsAt (part : Part) (turn place : ℕ) : Type 0 where
  pub turns : part.until ≡ turn
  pub places : part.end ≡ place

-- a turn is one of the window, and one of a part
pub record IsTurnOf (w : Window) (part : Part) (turn : ℕ) : Type 0 where
  pub in_window : (w.from ≤ turn) × (turn < w.to)
  pub in_part : (part.since ≤ turn) × (turn < part.until)

-- a text stands within another
abbrev pub StandsWithin : List ℕ → List ℕ → Type 0
StandsWithin text whole = (front back : List ℕ) × (whole ≡ front ++ text ++ back)
