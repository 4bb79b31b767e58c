-- The text of the steps chosen of a run that meet a condition: a line for each, held steps one by
-- one.
use Rattle.std.specs.Prelude.{◌≡◌, ℕ, List, [], ◌∷◌, ◌++◌, map, Option, Result, Err}
use Rattle.std.specs.List.{flat_map}
use Rattle.std.specs.Io.KnownBytes.{Keeps}
use Rattle.pp_machine.specs.MachineState.{MachineState}
use Rattle.pp_condition.specs.Condition.{Meets}
use Rattle.pp_condition.specs.declared.condition.Condition.{Condition}
use Rattle.pp_run.specs.RunSteps.{RunStep}
use Rattle.pp_run.specs.declared.progress.Progress.{Progress}
use Rattle.pp_run.specs.declared.progress.Progress.TheVariants.{AtRest, Moved, Held}
use Rattle.pp_text.specs.Written.{IsReportWritten}
use Rattle.pp_text.specs.declared.report_fault.ReportFault.{ReportFault}
use Rattle.pp_steps.specs.Choice.{chosen_steps}
use Rattle.pp_steps.specs.HeldSpells.{progress_of}
use Rattle.pp_steps.specs.StepsText.{StepWithLine, line_text}
use Rattle.pp_steps.specs.declared.{choice.Choice.Choice, cursor.LineKind.LineKind}
use Rattle.pp_steps.specs.declared.cursor.LineKind.TheVariants.{NoLine, OneStep, HeldSteps}

-- the line of a step by itself, and the step with it
abbrev pub line_alone : Progress → LineKind
line_alone AtRest = NoLine
line_alone Moved = OneStep
line_alone (Held flags) = HeldSteps 1

abbrev pub alone : RunStep → StepWithLine
alone step = record { step = step; line = line_alone (progress_of step) }

-- those of some steps that meet a condition, in order
pub data AreThoseWhere (condition : Condition) : List RunStep → List RunStep → Type 0 where
  none : AreThoseWhere condition [] []
  meets : (steps those : List RunStep) (step : RunStep) → AreThoseWhere condition steps those
      → Meets condition step
      → AreThoseWhere condition (steps ++ step ∷ []) (those ++ step ∷ [])
  passes : (steps those : List RunStep) (step : RunStep) → AreThoseWhere condition steps those
      → ¬ Meets condition step → AreThoseWhere condition (steps ++ step ∷ []) those

-- a text has their lines
pub record HasLinesWhere (condition : Condition) (steps : List RunStep) (text : List ℕ) : Type 0
  where
    pub those : List RunStep
    pub are_those : AreThoseWhere condition steps those
    pub text_is : text ≡ flat_map line_text (map alone those)

-- what writing them comes to: for want of memory nothing is written
abbrev pub IsWrittenWhere : Choice → Condition → List ℕ → MachineState
    → Result (Unit {0}) ReportFault → Option (List ℕ) → Option (List ℕ) → Type 0
IsWrittenWhere choice condition order m (Err ReportFault.Memory) old new = Keeps old new
IsWrittenWhere choice condition order m written old new = (text : List ℕ)
    × HasLinesWhere condition (chosen_steps choice order m) text
    × IsReportWritten text written old new
