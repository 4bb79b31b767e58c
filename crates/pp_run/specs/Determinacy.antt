-- When one list of steps of a machine determines the result of every other: no step of it races
-- with another, and after it every processor is settled. Processors may take their steps in any
-- order, so that a step finds its channel as the others have left it by then. What else it might
-- have found, and what it would have done then, is read off the one list alone. (Manual 60100000,
-- data channels: a processor waits for a channel, or tests its flags.)
use Rattle.std.specs.Prelude.{◌≡◌, ◌≢◌, ℕ, zero, suc, ◌<◌, ◌==◌, IsTrue, List, [], ◌∷◌, length, take, filter_map, Some, None, ◌⊎◌, if◌then◌else◌, slice_index}
use Rattle.pp_channel.specs.Answer.{event_of, reply_to}
use Rattle.pp_numbers.specs.ChannelNo.{names_channel}
use Rattle.pp_channel.specs.declared.{chan_op.ChanOp.ChanOp, event.Event.Event}
use Rattle.pp_machine.specs.MachineState.{MachineState, processor_of, history_of}
use Rattle.pp_machine.specs.MachineStep.{stepped, step_event}
use Rattle.pp_processor.specs.NeedAndEffect.{need, processor_after}
use Rattle.pp_processor.specs.Processor.{Processor, IsAtRest}
use Rattle.pp_machine.specs.Run.{run}
use Rattle.pp_processor.specs.declared.{answer.Answer.Answer, need.Need.Need}
use Rattle.pp_machine.specs.declared.{trace.Trace.Trace}

-- a step of processor n waits: held, at rest or a jump to itself, it changes nothing but turns
pub record Waits (n : ℕ) (m : MachineState) : Type 0 where
  pub processor : processor_of n (stepped n m) ≡ processor_of n m
  pub event : step_event n m ≡ None
  pub central : (stepped n m).central ≡ m.central

-- a machine is quiet if a step of every processor waits
pub record IsQuiet (m : MachineState) : Type 0 where
  pub waits : (n : ℕ) → Waits n m

-- Moment t of a list of steps is the one before step t: how the machine, a processor and a channel
-- stand there, and what processor takes step t and needs for it.
abbrev pub at_moment : List ℕ → MachineState → ℕ → MachineState
at_moment ns m t = run (take t ns) m

abbrev pub processor_at : List ℕ → MachineState → ℕ → ℕ → Processor
processor_at ns m q t = processor_of q (at_moment ns m t)

abbrev pub history_at : List ℕ → MachineState → ℕ → ℕ → List Event
history_at ns m c t = history_of c (at_moment ns m t)

abbrev pub need_at : List ℕ → MachineState → ℕ → Need
need_at ns m t = need (processor_at ns m (slice_index ns t) t)

-- a processor that finds its channel with this history waits: no event, and it stays as it is
pub record Stays (op : ChanOp) (pp : Processor) (found : List Event) : Type 0 where
  pub no_event : event_of op found ≡ None
  pub stays : processor_after pp (Answer.Channel (reply_to op found)) ≡ pp

-- it does the same with either history, and makes an event with neither
pub record DoesTheSame (op : ChanOp) (pp : Processor) (found other : List Event) : Type 0 where
  pub no_event : event_of op found ≡ None
  pub nor_there : event_of op other ≡ None
  pub same : processor_after pp (Answer.Channel (reply_to op found))
      ≡ processor_after pp (Answer.Channel (reply_to op other))

-- processor q may pass step t while channel c stands as at moment s: the step is not q's on c, or
-- waits, or would do the same at s
abbrev pub AdvancesAlone : List ℕ → MachineState → ℕ → ℕ → ℕ → ℕ → Type 0
AdvancesAlone ns m q c t s = (slice_index ns t ≢ q)
    ⊎ ((op : ChanOp) → need (processor_at ns m q t) ≡ Need.Channel c op
    → Stays op (processor_at ns m q t) (history_at ns m c t)
    ⊎ DoesTheSame op (processor_at ns m q t) (history_at ns m c s) (history_at ns m c t))

-- step s makes no event of processor q on channel c
abbrev pub MakesNoneOf : List ℕ → MachineState → ℕ → ℕ → ℕ → Type 0
MakesNoneOf ns m q c s = (slice_index ns s ≢ q) ⊎ (history_at ns m c (suc s) ≡ history_at ns m c s)

-- THE HEART: processor q may find channel c as the list had it at moment s when q itself stands as
-- the list had it at moment t. This holds if some order of steps finds them so. It may hold even if
-- no order does, for it looks at q and c alone: what another channel or a word of memory makes
-- wait, it does not see. Two counters, t for q and s for c, go from 0: s passes any step that makes
-- no event of q's on c; t passes any step by `AdvancesAlone`; and both pass one step together.
pub data MayFind (ns : List ℕ) (m : MachineState) (q c : ℕ) : ℕ → ℕ → Type 0 where
  start : MayFind ns m q c zero zero
  channel_advances : (t s : ℕ) → MayFind ns m q c t s → MakesNoneOf ns m q c s
      → MayFind ns m q c t (suc s)
  processor_advances : (t s : ℕ) → MayFind ns m q c t s → AdvancesAlone ns m q c t s
      → MayFind ns m q c (suc t) s
  both_advance : (t : ℕ) → MayFind ns m q c t t → MayFind ns m q c (suc t) (suc t)

-- step t does not race with channel c as it stood at moment s: it had the same history; or the step
-- makes no event with either, and does the same; or s is before t, and it would wait
abbrev pub IsNoRaceAt : List ℕ → MachineState → ℕ → ℕ → ChanOp → Processor → ℕ → Type 0
IsNoRaceAt ns m t c op pp s = (history_at ns m c s ≡ history_at ns m c t)
    ⊎ (DoesTheSame op pp (history_at ns m c s) (history_at ns m c t)
    ⊎ ((s < t) × Stays op pp (history_at ns m c s)))

-- Step t is race-free: its channel, if any, exists, and however it may find it, it does not race.
pub record IsRaceFreeOn (ns : List ℕ) (m : MachineState) (t c : ℕ) (op : ChanOp) : Type 0 where
  pub exists : IsTrue (names_channel c)
  pub in_time : (s : ℕ) → MayFind ns m (slice_index ns t) c t s
      → IsNoRaceAt ns m t c op (processor_at ns m (slice_index ns t) t) s

abbrev pub IsRaceFree : List ℕ → MachineState → ℕ → Type 0
IsRaceFree ns m t = (c : ℕ) (op : ChanOp) → need_at ns m t ≡ Need.Channel c op
    → IsRaceFreeOn ns m t c op

-- a processor waits for a channel for good: however it may find it after the last step, it waits
pub record WaitsForGood (ns : List ℕ) (m : MachineState) (q c : ℕ) (op : ChanOp) : Type 0 where
  pub waits : need (processor_of q (run ns m)) ≡ Need.Channel c op
  pub for_good : (s : ℕ) → MayFind ns m q c (length ns) s
      → Stays op (processor_of q (run ns m)) (history_at ns m c s)

-- a processor turns in place: its step needs nothing from outside, and leaves it as it is
pub record TurnsInPlace (pp : Processor) : Type 0 where
  pub needs : need pp ≡ Need.Local
  pub stays : processor_after pp Answer.Local ≡ pp

-- a processor is settled after the last step: it is at rest, or turns in place, or waits for good
abbrev pub IsSettled : List ℕ → MachineState → ℕ → Type 0
IsSettled ns m q = IsAtRest (processor_of q (run ns m)) ⊎ (TurnsInPlace (processor_of q (run ns m))
    ⊎ ((c : ℕ) × (op : ChanOp) × WaitsForGood ns m q c op))

-- a step writes or reads the central word of an address
abbrev pub WritesAt : ℕ → Need → Type 0
WritesAt a x = (word : ℕ) × (x ≡ Need.Write a word)

abbrev pub UsesAt : ℕ → Need → Type 0
UsesAt a x = (x ≡ Need.Read a) ⊎ WritesAt a x

-- no step of a list races so far: each waits or is race-free, and only the processor that writes a
-- central word uses it
pub record IsRaceFreeSoFar (ns : List ℕ) (m : MachineState) : Type 0 where
  pub steps : (t : ℕ) → t < length ns
      → Waits (slice_index ns t) (at_moment ns m t) ⊎ IsRaceFree ns m t
  pub apart : (u t a : ℕ) → u < length ns → t < length ns → a < length m.central
      → WritesAt a (need_at ns m u) → UsesAt a (need_at ns m t)
      → slice_index ns u ≡ slice_index ns t

-- ONE LIST OF STEPS DETERMINES THE RESULT OF ALL OTHERS: no step of it races, and after the last
-- each processor is settled.
pub record IsDeterminate (ns : List ℕ) (m : MachineState) : Type 0 where
  pub race_free : IsRaceFreeSoFar ns m
  pub settled : (q : ℕ) → IsSettled ns m q

-- the events of a trace on channel c, in order, each with the processor that made it
abbrev pub made_on : ℕ → List Trace → List (ℕ × Event)
made_on c trace =
    filter_map (λ entry. if entry.channel == c then Some (entry.pp, entry.event) else None) trace

-- a channel stands as at moment s: it has the same history, each event made by the same processor
pub record StandsAs (ns : List ℕ) (m now : MachineState) (c s : ℕ) : Type 0 where
  pub history : history_of c now ≡ history_at ns m c s
  pub made : IsTrue (names_channel c) → made_on c now.trace ≡ made_on c (at_moment ns m s).trace

-- each processor and each channel of a machine stands as at some moment of a list of steps
pub record ShowsParts (ns : List ℕ) (m now : MachineState) : Type 0 where
  pub processors : (q : ℕ) → (t : ℕ) × (processor_of q now ≡ processor_at ns m q t)
  pub channels : (c : ℕ) → (s : ℕ) × StandsAs ns m now c s

-- Two machines are alike: each processor stands the same, with registers and memory; central
-- memory has the same words, each channel the same history, and each event the same author. What
-- no step changes, the profile and the channels that dead start opened, is not stated; turns may
-- differ, and how the events of different channels interleave.
pub record AreAlike (one other : MachineState) : Type 0 where
  pub processors : (q : ℕ) → processor_of q one ≡ processor_of q other
  pub central : one.central ≡ other.central
  pub histories : (c : ℕ) → history_of c one ≡ history_of c other
  pub made : (c : ℕ) → IsTrue (names_channel c) → made_on c one.trace ≡ made_on c other.trace

-- a list of steps stands in another, in its order, with any steps between: as it does in every
-- order that goes on with each processor for long enough
pub data IsEmbeddedIn : List ℕ → List ℕ → Type 0 where
  over : (others : List ℕ) → IsEmbeddedIn [] others
  next : (n : ℕ) (ns others : List ℕ) → IsEmbeddedIn ns others → IsEmbeddedIn (n ∷ ns) (n ∷ others)
  beside : (n : ℕ) (ns others : List ℕ) → IsEmbeddedIn ns others → IsEmbeddedIn ns (n ∷ others)
