-- How things stand after a run: processors shown, words that differ from the load, and channels.
use Rattle.std.specs.Prelude.{ℕ, Bool, List, [], ◌++◌, slice_index_or, if◌then◌else◌}
use Rattle.std.specs.List.{flat_map}
use Rattle.pp_numbers.specs.ChannelNo.{all_channels}
use Rattle.pp_machine.specs.MachineState.{MachineState, processor_of}
use Rattle.pp_numbers.specs.PpNo.{all_processors, processor_index, is_named}
use Rattle.pp_machine.specs.Run.{run}
use Rattle.pp_deck.specs.DeckMeaning.{LoadedDeck}
use Rattle.pp_deck.specs.InUse.{in_use}
use Rattle.pp_text.specs.PrintedText.{processor_line, used_channel_line}
use Rattle.pp_text.specs.Standing.{standing}
use Rattle.pp_listing.specs.ListedLine.{deck_line}
use Rattle.pp_run.specs.RunSteps.{run_steps}
use Rattle.pp_run.specs.StepCounts.{each_step_counts, no_steps}
use Rattle.pp_run.specs.declared.step_counts.StepCounts.{StepCounts}
use Rattle.pp_state.specs.Changes.{changed_central, changed_sections}

-- the line of processor n, if it is shown; `counts` counts each one's steps, in barrel order
abbrev pub standing_line : List Bool → MachineState → List StepCounts → ℕ → List ℕ
standing_line shown m counts n = if is_named shown n then processor_line n (processor_of n m)
    (standing n m (slice_index_or counts (processor_index n) no_steps).last_held) else []

-- behind the processors: what a run has changed in the memories, and the channels
unfoldable pub changes_text : MachineState → MachineState → List ℕ
changes_text before after = flat_map deck_line (changed_sections before after)
    ++ flat_map deck_line (changed_central before.central after.central)
    ++ flat_map (used_channel_line after.histories) all_channels

-- the text of two machines, before and after a run
unfoldable pub state_text : List Bool → MachineState → MachineState → List StepCounts → List ℕ
state_text shown before after counts =
    flat_map (standing_line shown after counts) all_processors ++ changes_text before after

-- the text of a loaded deck after these steps
abbrev pub state_after : List ℕ → LoadedDeck → List ℕ
state_after steps deck = state_text (in_use deck) deck.machine (run steps deck.machine)
    (each_step_counts (run_steps steps deck.machine))
