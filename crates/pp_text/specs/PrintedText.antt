-- The text of a run: a line for each event, each processor named, and each channel with a history.
-- A text is a list of ASCII codes, and every line ends with a line feed.
use Rattle.std.specs.Prelude.{ℕ, zero, suc, ◌-◌, Bool, List, [], ◌∷◌, ◌++◌, codes, length, replicate, if◌then◌else◌, flat_map}
use Rattle.pp_numbers.specs.ChannelNo.{all_channels}
use Rattle.pp_channel.specs.ChannelText.{channel_text}
use Rattle.pp_channel.specs.History.{active, waiting, history_on}
use Rattle.pp_channel.specs.declared.event.Event.{Event}
use Rattle.pp_machine.specs.MachineState.{MachineState, processor_of}
use Rattle.pp_processor.specs.Processor.{Processor}
use Rattle.pp_numbers.specs.PpNo.{all_processors, is_named}
use Rattle.pp_processor.specs.declared.{pp_state.PpState.PpState}
use Rattle.pp_machine.specs.declared.{trace.Trace.Trace}
use Rattle.pp_word.specs.Numeral.{decimal, octal}

abbrev pub line_end : List ℕ
line_end = 10 ∷ []

-- a text, padded with spaces to `columns` columns
abbrev pub padded : ℕ → List ℕ → List ℕ
padded columns text = text ++ replicate (columns - length text) 32

-- `PUT 0007`
abbrev pub event_text : Event → List ℕ
event_text Event.Activate = codes "ACN"
event_text Event.Disconnect = codes "DCN"
event_text (Event.Put word) = codes "PUT " ++ octal 4 word
event_text (Event.Take word) = codes "TAK " ++ octal 4 word
event_text (Event.Function word) = codes "FNC " ++ octal 4 word

-- `000020 PP00 CH05 PUT 0007`
unfoldable pub event_line : Trace → List ℕ
event_line e = decimal e.turn ++ codes " PP" ++ octal 2 e.pp ++ codes " CH" ++ octal 2 e.channel
    ++ codes " " ++ event_text e.event ++ line_end

abbrev pub state_text : PpState → List ℕ
state_text PpState.Running = codes "RUNNING"
state_text PpState.Stopped = codes "STOPPED"
state_text (PpState.Fault number) = codes "FAULT " ++ octal 1 number

-- `PP00 P=0103 A=000007 STOPPED`, with what is printed of the processor last
unfoldable pub processor_line : ℕ → Processor → List ℕ → List ℕ
processor_line n pp said = codes "PP" ++ octal 2 n ++ codes " P=" ++ octal 4 pp.p
    ++ codes " A=" ++ octal 6 pp.a ++ codes " " ++ said ++ line_end

-- `CH05 ACTIVE FULL 0007`, for a channel with a history
abbrev pub channel_line : ℕ → List Event → List ℕ
channel_line c [] = []
channel_line c (e ∷ h) = codes "CH" ++ octal 2 c
    ++ codes " " ++ channel_text (active (e ∷ h)) (waiting (e ∷ h)) ++ line_end

-- what there is of 0, of 1, .. and of count - 1, one after another
unfoldable pub each_below : {X : Type 0} → ℕ → (ℕ → List X) → List X
each_below zero said = []
each_below (suc k) said = each_below k said ++ said k

-- the line of processor n, if the deck names it
abbrev pub named_processor_line : List Bool → MachineState → ℕ → List ℕ
named_processor_line named m n = if is_named named n
    then (let pp = processor_of n m in processor_line n pp (state_text pp.state)) else []

-- the line of channel c, if it has a history
abbrev pub used_channel_line : List (List Event) → ℕ → List ℕ
used_channel_line histories c = channel_line c (history_on c histories)

-- the text of a machine: its events in order, then processors named and channels used, by number
unfoldable pub printed : List Bool → MachineState → List ℕ
printed named m =
    flat_map event_line m.trace ++ flat_map (named_processor_line named m) all_processors
    ++ flat_map (used_channel_line m.histories) all_channels
