use Rattle.std.proofs.Common.{◌≡◌, ℕ, ◌<◌, [], get_or}
use Rattle.pp_channel.specs.Answer.{channel_state}
use Rattle.pp_run.specs.BareMachine.{StandsFor}
use Rattle.pp_machine.specs.MachineState.{MachineState, processor_of}
use Rattle.pp_numbers.specs.PpNo.{processor_number}
use Rattle.pp_ends.proofs.alike.difference.Given as goal

-- the channels at the first places stand alike
abbrev pub ChannelsBelow : ℕ → MachineState → MachineState → Type 0
ChannelsBelow count m k = (j : ℕ) → j < count → channel_state (get_or k.histories j []) ≡ channel_state (get_or m.histories j [])

abbrev pub ProcessorsBelow : ℕ → MachineState → MachineState → Type 0
ProcessorsBelow count m k = (j : ℕ) → j < count → processor_of (processor_number j) m ≡ processor_of (processor_number j) k

abbrev pub invariant-loop-place : goal.invariant-loop-place
invariant-loop-place g l = (m k : MachineState) → StandsFor l.one m → StandsFor l.other k → ChannelsBelow l.place m k

abbrev pub invariant-loop-place-2 : goal.invariant-loop-place-2
invariant-loop-place-2 g l = record {
  channels : (m k : MachineState) → StandsFor l.one m → StandsFor l.other k → ChannelsBelow 24 m k;
  processors : (m k : MachineState) → StandsFor l.one m → StandsFor l.other k → ProcessorsBelow l.place m k;
}
