-- Which steps of a run are chosen: by processor and turn, and by the channel that they ask.
use Rattle.std.specs.Prelude.{ℕ, ◌&&◌, Bool, true, false, nat_le, nat_lt, List, Option, None, Some, slice_index_or}
use Rattle.std.specs.List.{filter}
use Rattle.pp_numbers.specs.ChannelNo.{channel_index}
use Rattle.pp_machine.specs.MachineState.{MachineState, processor_of}
use Rattle.pp_processor.specs.NeedAndEffect.{need}
use Rattle.pp_numbers.specs.PpNo.{is_named}
use Rattle.pp_processor.specs.declared.need.Need.{Need}
use Rattle.pp_processor.specs.declared.need.Need.TheVariants.{Channel}
use Rattle.pp_run.specs.RunSteps.{RunStep, run_steps}
use Rattle.pp_steps.specs.declared.choice.Choice.{Choice}

-- whether steps of processor n in a turn are chosen, if their channel is
abbrev pub chooses_turn : Choice → ℕ → ℕ → Bool
chooses_turn choice n turn =
    is_named choice.processors n && nat_le choice.from turn && nat_lt turn choice.to

-- whether steps that ask channel c are chosen: all are where no channels are given
abbrev pub chooses_channel : Option (List Bool) → ℕ → Bool
chooses_channel None c = true
chooses_channel (Some channels) c = slice_index_or channels (channel_index c) false

-- whether steps with this need are chosen
abbrev pub chooses_need : Option (List Bool) → Need → Bool
chooses_need None need = true
chooses_need (Some channels) (Channel c operation) = chooses_channel (Some channels) c
chooses_need (Some channels) need = false

-- whether a step is chosen
abbrev pub is_chosen : Choice → RunStep → Bool
is_chosen choice step = chooses_turn choice step.processor step.before.turns
    && chooses_need choice.channels (need (processor_of step.processor step.before))

-- the steps of a run that are chosen, in order
abbrev pub chosen_steps : Choice → List ℕ → MachineState → List RunStep
chosen_steps choice steps load = filter (is_chosen choice) (run_steps steps load)
