-- How many steps moved a processor, were held, and found it at rest.
use Rattle.std.specs.Prelude.{ℕ, Bool, true, false, List, count_by, length, not}
use Rattle.std.specs.List.{after_last}
use Rattle.pp_processor.specs.declared.outcome.Outcome.{Outcome}
use Rattle.pp_processor.specs.declared.outcome.Outcome.TheVariants.{Moved, Held, AtRest}
use Rattle.pp_run.specs.RunSteps.{RunStep, outcome_of, seen_of}
use Rattle.pp_run.specs.declared.step_counts.StepCounts.{StepCounts}
use Rattle.pp_numbers.specs.PpNo.{each_processor}

abbrev pub is_moved : Outcome → Bool
is_moved Moved = true
is_moved _ = false

abbrev pub is_held : Outcome → Bool
is_held Held = true
is_held _ = false

abbrev pub is_at_rest : Outcome → Bool
is_at_rest AtRest = true
is_at_rest _ = false

-- how many of the last steps in a row are held
abbrev pub held_steps : List Outcome → ℕ
held_steps steps = length (after_last (λ outcome. not (is_held outcome)) steps)

-- of some steps, how many had each outcome
abbrev pub counts_of : List Outcome → StepCounts
counts_of steps = record {
  moved = count_by is_moved steps;
  held = count_by is_held steps;
  at_rest = count_by is_at_rest steps;
  last_held = held_steps steps;
}

-- the same of the steps of processor n
abbrev pub step_counts : ℕ → List RunStep → StepCounts
step_counts n steps = counts_of (seen_of outcome_of n steps)

-- and of each processor, in the order of the barrel
abbrev pub each_step_counts : List RunStep → List StepCounts
each_step_counts steps = each_processor (λ n. step_counts n steps)

abbrev pub no_steps : StepCounts
no_steps = record { moved = 0; held = 0; at_rest = 0; last_held = 0 }
