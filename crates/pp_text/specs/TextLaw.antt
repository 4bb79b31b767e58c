-- What the text of a machine says of it: two machines with one text agree on all that it shows.
use Rattle.std.specs.Prelude.{◌≡◌, ℕ, ◌<◌, ◌^◌, ◌↔◌, List, [], Bool, All, IfSome, IsTrue}
use Rattle.pp_numbers.specs.ChannelNo.{names_channel}
use Rattle.pp_channel.specs.History.{HasTwelveBitWord, active, waiting, history_on}
use Rattle.pp_channel.specs.declared.event.Event.{Event}
use Rattle.pp_machine.specs.MachineState.{MachineState, processor_of}
use Rattle.pp_processor.specs.Processor.{Processor, HasFaultNumber}
use Rattle.pp_numbers.specs.PpNo.{names_processor, is_named}
use Rattle.pp_machine.specs.declared.trace.Trace.{Trace}

-- an event fits its line: a turn of 64 bits, a processor, a channel, a word of 12 bits
pub record EventFits (e : Trace) : Type 0 where
  pub turn : e.turn < 2 ^ 64
  pub pp : IsTrue (names_processor e.pp)
  pub channel : IsTrue (names_channel e.channel)
  pub word : HasTwelveBitWord e.event

-- a processor fits its line: registers of the manual's widths, a numbered fault
pub record ProcessorFits (pp : Processor) : Type 0 where
  pub p : pp.p < 2 ^ 12
  pub a : pp.a < 2 ^ 18
  pub state : HasFaultNumber pp.state

-- a history fits the line of its channel: a word that waits has 12 bits
abbrev pub HistoryFits : List Event → Type 0
HistoryFits h = IfSome (waiting h) (λ word. word < 2 ^ 12)

-- a machine fits its text, as each that is printed does
pub record FitsItsText (named : List Bool) (m : MachineState) : Type 0 where
  pub trace : All EventFits m.trace
  pub processors : (n : ℕ) → IsTrue (is_named named n) → ProcessorFits (processor_of n m)
  pub channels : (c : ℕ) → IsTrue (names_channel c) → HistoryFits (history_on c m.histories)

-- two processors with one line
pub record ShowSameProcessor (pp other : Processor) : Type 0 where
  pub p : pp.p ≡ other.p
  pub a : pp.a ≡ other.a
  pub state : pp.state ≡ other.state

-- two histories of a channel with one line, or both without, where nothing has happened
pub record ShowSameChannel (h other : List Event) : Type 0 where
  pub unused : (h ≡ []) ↔ (other ≡ [])
  pub active : active h ≡ active other
  pub waiting : waiting h ≡ waiting other

abbrev pub NameAlike : List Bool → List Bool → Type 0
NameAlike named others = (n : ℕ) → is_named named n ≡ is_named others n

-- the same processors named; the same events in the same order; of each processor named the same P,
-- A and state; and of each channel whether anything has happened, whether it is active, and the
-- word that waits
pub record AgreeOnText (named others : List Bool) (one other : MachineState) : Type 0 where
  pub names : NameAlike named others
  pub trace : one.trace ≡ other.trace
  pub processors : (n : ℕ) → IsTrue (is_named named n)
      → ShowSameProcessor (processor_of n one) (processor_of n other)
  pub channels : (c : ℕ) → IsTrue (names_channel c)
      → ShowSameChannel (history_on c one.histories) (history_on c other.histories)

-- the same history on each channel
abbrev pub AreSameHistories : List (List Event) → List (List Event) → Type 0
AreSameHistories histories others =
    (c : ℕ) → IsTrue (names_channel c) → history_on c histories ≡ history_on c others
