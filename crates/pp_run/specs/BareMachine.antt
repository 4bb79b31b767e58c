-- A machine without its record: of each channel it has flags and register alone, and no trace.
use Rattle.std.specs.Prelude.{◌≡◌, ℕ, List, [], length, IsTrue, slice_index_or}
use Rattle.pp_channel.specs.Answer.{channel_state}
use Rattle.pp_numbers.specs.ChannelNo.{channel_count, channel_index, names_channel}
use Rattle.pp_channel.specs.declared.{channel_state.ChannelState.ChannelState, event.Event.Event}
use Rattle.pp_channel.specs.declared.reply.Reply.TheVariants as reply
use Rattle.pp_machine.specs.Headline.{HoldsOnEachChannel}
use Rattle.pp_machine.specs.MachineState.{MachineState, processor_of}
use Rattle.pp_machine.specs.MachineStep.{answer_to, step_outcome}
use Rattle.pp_processor.specs.NeedAndEffect.{need}
use Rattle.pp_numbers.specs.PpNo.{processor_count}
use Rattle.pp_processor.specs.declared.{answer.Answer.Answer, outcome.Outcome.Outcome}
use Rattle.pp_processor.specs.declared.answer.Answer.TheVariants.{Channel}
use Rattle.pp_processor.specs.declared.outcome.Outcome.TheVariants as outcome
use Rattle.pp_run.specs.declared.{bare_machine.BareMachine.BareMachine, progress.Progress.Progress}
use Rattle.pp_run.specs.declared.progress.Progress.TheVariants.{AtRest, Moved, Held}

-- the states of a list of channels, by the place of their numbers
abbrev pub AreStates : List ChannelState → List (List Event) → Type 0
AreStates states histories = (c : ℕ) → IsTrue (names_channel c)
    → slice_index_or states (channel_index c) (channel_state [])
    ≡ channel_state (slice_index_or histories (channel_index c) [])

-- a step by its outcome and by the answer that it got: a held one with the flags that held it
abbrev pub progress_by : Outcome → Answer → Progress
progress_by outcome.AtRest answer = AtRest
progress_by outcome.Moved answer = Moved
progress_by outcome.Held (Channel (reply.Held flags)) = Held flags
progress_by outcome.Held answer = Moved

-- what the next step of processor n does
unfoldable pub progress : ℕ → MachineState → Progress
progress n m = progress_by (step_outcome n m) (answer_to (need (processor_of n m)) m)

pub record StandsFor {A : Type 0} (bare : BareMachine A) (m : MachineState) : Type 0 where
  pub processors : bare.processors.items ≡ m.processors
  pub central : bare.central ≡ m.central
  pub turns : bare.turns ≡ m.turns
  pub states : AreStates bare.channels m.histories
  pub as_many : length m.processors ≡ processor_count
  pub channels : length m.histories ≡ channel_count
  pub headline : HoldsOnEachChannel m
