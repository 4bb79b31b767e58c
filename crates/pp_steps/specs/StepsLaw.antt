-- What the lines of a run tell: which events there were, and how many steps.
use Rattle.std.specs.Prelude.{ℕ, Bool, true, false, ◌&&◌, List, [], ◌∷◌, map, replicate}
use Rattle.std.specs.Option.{option_to_list}
use Rattle.pp_channel.specs.Answer.{event_of}
use Rattle.pp_machine.specs.MachineState.{MachineState, history_of, processor_of}
use Rattle.pp_processor.specs.NeedAndEffect.{need}
use Rattle.pp_processor.specs.declared.{need.Need.Need}
use Rattle.pp_machine.specs.declared.{trace.Trace.Trace}
use Rattle.pp_processor.specs.declared.need.Need.TheVariants.{Channel}
use Rattle.pp_run.specs.RunSteps.{is_of}
use Rattle.pp_steps.specs.Choice.{chooses_channel, chooses_turn}
use Rattle.pp_steps.specs.HeldSpells.{progress_of}
use Rattle.pp_steps.specs.declared.{choice.Choice.Choice, cursor.LineKind.LineKind}
use Rattle.pp_steps.specs.StepsText.{StepWithLine}
use Rattle.pp_steps.specs.declared.cursor.LineKind.TheVariants.{NoLine, OneStep, HeldSteps}
use Rattle.pp_run.specs.declared.progress.Progress.{Progress}
use Rattle.pp_run.specs.declared.progress.Progress.TheVariants.{AtRest}

-- the event that a step of processor n with this need makes, as an entry of the trace
abbrev pub entry_of : ℕ → Need → MachineState → List Trace
entry_of n (Channel c operation) m =
    map (λ e. record { turn = m.turns; pp = n; channel = c; event = e })
    (option_to_list (event_of operation (history_of c m)))
entry_of n need m = []

-- the event on a line, as an entry of the trace: on that of one step, where it made one
abbrev pub event_on : LineKind → ℕ → MachineState → List Trace
event_on OneStep n m = entry_of n (need (processor_of n m)) m
event_on line n m = []

abbrev pub line_event : StepWithLine → List Trace
line_event x = event_on x.line x.step.processor x.step.before

-- whether the step that made an event is chosen
abbrev pub is_chosen_event : Choice → Trace → Bool
is_chosen_event choice entry =
    chooses_turn choice entry.pp entry.turn && chooses_channel choice.channels entry.channel

-- the steps on a line: none, one, or as many as it counts
abbrev pub steps_on : LineKind → Progress → List Progress
steps_on NoLine step = []
steps_on OneStep step = step ∷ []
steps_on (HeldSteps count) step = replicate count step

abbrev pub line_steps : StepWithLine → List Progress
line_steps x = steps_on x.line (progress_of x.step)

abbrev pub is_by : ℕ → StepWithLine → Bool
is_by n x = is_of n x.step

-- whether the processor was running
abbrev pub is_running : Progress → Bool
is_running AtRest = false
is_running step = true
