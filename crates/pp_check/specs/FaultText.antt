-- How the fault of a trace is printed: channels and words in octal, turns, numbers of events and
-- lines in decimal.
use Rattle.std.specs.Prelude.{ℕ, List, ◌++◌, Option, None, Some, codes, if◌then◌else◌}
use Rattle.pp_word.specs.Numeral.{octal, short_decimal}
use Rattle.pp_channel.specs.ChannelText.{channel_text}
use Rattle.pp_channel.specs.declared.{channel_state.ChannelState.ChannelState, event.Event.Event, flags.Flags.Flags}
use Rattle.pp_channel.specs.declared.event.Event.TheVariants.{Put, Take}
use Rattle.pp_text.specs.PrintedText.{event_text}
use Rattle.pp_check.specs.declared.{trace_fault.TraceFault.TraceFault, trace_fault.TraceFlaw.TraceFlaw}
use Rattle.pp_check.specs.declared.trace_fault.TraceFlaw.TheVariants.{Malformed, TurnNotRising, WrongNumber, UnlawfulEvent, WrongState}

abbrev pub state_text : ChannelState → List ℕ
state_text state = channel_text state.flags.active state.register

-- what keeps a word from passing
abbrev pub passing_text : Flags → List ℕ
passing_text flags = if flags.active
    then (if flags.full then codes "which is full" else codes "which is empty")
    else codes "which is inactive"

-- what keeps a word from being taken: if one waits it is another
abbrev pub taking_text : Option ℕ → Flags → List ℕ
taking_text (Some word) flags = codes "expected TAK " ++ octal 4 word
taking_text None flags = passing_text flags

-- what prevents an event
abbrev pub obstacle_text : Event → ChannelState → List ℕ
obstacle_text (Take word) state = taking_text state.register state.flags
obstacle_text (Put word) state = passing_text state.flags
obstacle_text event state =
    if state.flags.active then codes "which is active" else codes "which is inactive"

abbrev pub unlawful_text : ℕ → Event → ChannelState → List ℕ
unlawful_text c e state =
    event_text e ++ codes " on CH" ++ octal 2 c ++ codes ", " ++ obstacle_text e state

-- `turn 5 after turn 7`, `PUT 0002 on CH05, which is full`
abbrev pub flaw_text : TraceFlaw → List ℕ
flaw_text Malformed = codes "not a line of a trace"
flaw_text (TurnNotRising turn last) =
    codes "turn " ++ short_decimal turn ++ codes " after turn " ++ short_decimal last
flaw_text (WrongNumber c number next) = codes "number " ++ short_decimal number
    ++ codes " where " ++ short_decimal next ++ codes " is next"
flaw_text (UnlawfulEvent c e state) = unlawful_text c e state
flaw_text (WrongState c shown state) = codes "CH" ++ octal 2 c ++ codes " "
    ++ state_text shown ++ codes ", expected " ++ state_text state

-- `line 3: not a line of a trace`
abbrev pub trace_fault_text : TraceFault → List ℕ
trace_fault_text fault =
    codes "line " ++ short_decimal fault.line ++ codes ": " ++ flaw_text fault.flaw
