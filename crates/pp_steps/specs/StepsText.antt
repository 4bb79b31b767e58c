-- The text of the steps chosen of a run: a line for each step, but held steps in a row on one line.
use Rattle.std.specs.Prelude.{ℕ, ◌+◌, List, [], ◌∷◌, ◌++◌, if◌then◌else◌}
use Rattle.std.specs.List.{flat_map, prefix_len}
use Rattle.pp_machine.specs.MachineState.{MachineState}
use Rattle.pp_machine.specs.MachineStep.{stepped}
use Rattle.pp_run.specs.RunSteps.{RunStep, seen_of}
use Rattle.pp_steps.specs.Choice.{chosen_steps}
use Rattle.pp_steps.specs.HeldSpells.{is_held_with, last_of, progress_of}
use Rattle.pp_steps.specs.StepLine.{held_line, step_line}
use Rattle.pp_steps.specs.declared.{choice.Choice.Choice, cursor.LineKind.LineKind}
use Rattle.pp_steps.specs.declared.cursor.LineKind.TheVariants.{NoLine, OneStep, HeldSteps}
use Rattle.pp_run.specs.declared.progress.Progress.{Progress}
use Rattle.pp_run.specs.declared.progress.Progress.TheVariants.{AtRest, Moved, Held}

-- which line a step has, by the last step of its processor before it and by those after it: none
-- where it is at rest, or held like the last
abbrev pub line_kind : Progress → Progress → List Progress → LineKind
line_kind last AtRest steps = NoLine
line_kind last Moved steps = OneStep
line_kind last (Held flags) steps = if is_held_with flags last then NoLine
    else HeldSteps (1 + prefix_len (is_held_with flags) steps)

-- a step, and which line it has
pub record StepWithLine : Type 0 where
  pub step : RunStep
  pub line : LineKind

-- the line of a step that comes after some steps and before others, of any processors
abbrev pub with_line : List RunStep → RunStep → List RunStep → StepWithLine
with_line past step future =
    let of_its_own : List RunStep → List Progress = seen_of progress_of step.processor in
    record {
      step = step;
      line = line_kind (last_of (of_its_own past)) (progress_of step) (of_its_own future);
    }

abbrev pub lines_from : List RunStep → List RunStep → List StepWithLine
lines_from past [] = []
lines_from past (step ∷ future) = with_line past step future ∷ lines_from (past ++ step ∷ []) future

-- some steps, each with the line that it has among them
abbrev pub with_lines : List RunStep → List StepWithLine
with_lines steps = lines_from [] steps

-- the line of a step of processor n of a machine. A held step leaves the machine as it is
abbrev pub kind_text : LineKind → ℕ → MachineState → List ℕ
kind_text NoLine n m = []
kind_text OneStep n m = step_line n m (stepped n m)
kind_text (HeldSteps count) n m = held_line n m count

abbrev pub line_text : StepWithLine → List ℕ
line_text x = kind_text x.line x.step.processor x.step.before

-- THE TEXT of the steps chosen of a run of a machine. Between two held steps of one processor that
-- are not in a row it moved on the channel that held it, by a step that is chosen if they are
unfoldable pub steps_text : Choice → List ℕ → MachineState → List ℕ
steps_text choice steps load = flat_map line_text (with_lines (chosen_steps choice steps load))
