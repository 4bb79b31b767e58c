-- A machine at one moment, by what has happened on its channels. (Manual 60100000, peripheral and
-- control processors: they have memories of their own and share central memory and data channels.)
use Rattle.std.specs.Prelude.{ℕ, Bool, false, List, [], slice_index_or, replicate}
use Rattle.pp_numbers.specs.ChannelNo.{channel_count, channel_index}
use Rattle.pp_channel.specs.History.{history_on}
use Rattle.pp_channel.specs.declared.event.Event.{Event}
use Rattle.pp_processor.specs.Processor.{Processor, new_processor, no_processor}
use Rattle.pp_numbers.specs.PpNo.{processor_count, processor_index}
use Rattle.pp_numbers.specs.declared.profile.Profile.{Profile}
use Rattle.pp_machine.specs.declared.trace.Trace.{Trace}

-- its profile, the processors in the order of the barrel, the history of each channel, the central
-- words by address, the turns counted, the events in the order in which steps made them, and of
-- each channel whether dead start opened it
pub record MachineState : Type 0 where
  pub profile : Profile
  pub processors : List Processor
  pub histories : List (List Event)
  pub central : List ℕ
  pub turns : ℕ
  pub trace : List Trace
  pub opened : List Bool

abbrev pub processor_of : ℕ → MachineState → Processor
processor_of n m = slice_index_or m.processors (processor_index n) no_processor

abbrev pub history_of : ℕ → MachineState → List Event
history_of c m = history_on c m.histories

-- whether dead start opened channel c
abbrev pub is_opened : ℕ → MachineState → Bool
is_opened c m = slice_index_or m.opened (channel_index c) false

-- a machine of this profile and this central size on which nothing has happened
abbrev pub new_machine : Profile → ℕ → MachineState
new_machine profile size = record {
  profile = profile;
  processors = replicate processor_count (new_processor profile);
  histories = replicate channel_count [];
  central = replicate size 0;
  turns = 0;
  trace = [];
  opened = replicate channel_count false;
}
