-- A run that is watched as it goes: what is kept of it after each step, so that at its end it is
-- known whether it determines the result of every order. (Private contracts alone cite this.)
use Rattle.std.specs.Prelude.{◌≡◌, ℕ, suc, ◌+◌, ◌<◌, ◌≤◌, Bool, true, IsTrue, List, length, take, Some, ◌++◌, ◌∷◌, [], ◌⊎◌, slice_index, ◌≢◌}
use Rattle.pp_channel.specs.Answer.{event_of, flags_of}
use Rattle.pp_numbers.specs.ChannelNo.{names_channel}
use Rattle.pp_channel.specs.declared.{chan_op.ChanOp.ChanOp, event.Event.Event, flags.Flags.Flags}
use Rattle.pp_machine.specs.MachineState.{MachineState, processor_of, history_of}
use Rattle.pp_processor.specs.NeedAndEffect.{need}
use Rattle.pp_processor.specs.Processor.{Processor}
use Rattle.pp_processor.specs.declared.need.Need.{Need}
use Rattle.pp_run.specs.Determinacy.{Waits, Stays, DoesTheSame, MayFind, at_moment, processor_at, history_at, need_at}
use Rattle.pp_processor.specs.Positions.{shown_to}
use Rattle.pp_races.specs.OtherFlags.{makes_none}

-- if the channel has these flags, the processor waits
pub record WaitsAt (op : ChanOp) (pp : Processor) (flags : Flags) : Type 0 where
  pub none : makes_none op flags ≡ true
  pub waits : shown_to op pp flags ≡ pp

-- if it has these flags, the processor does as if it had those
pub record DoesAsAt (op : ChanOp) (pp : Processor) (flags then_flags : Flags) : Type 0 where
  pub none : makes_none op flags ≡ true
  pub alike : shown_to op pp flags ≡ shown_to op pp then_flags

-- between two moments processor q makes no event on channel c
abbrev pub NoneBetween : List ℕ → MachineState → ℕ → ℕ → ℕ → ℕ → Type 0
NoneBetween ns m q c u t = (v : ℕ) → u ≤ v → v < t → slice_index ns v ≡ q
    → history_at ns m c (suc v) ≡ history_at ns m c v

-- step u makes an event, or it does the same wherever it may find its channel up to moment t, and
-- will do so as long as the flags are open to it
pub record IsOpen (ns : List ℕ) (m : MachineState) (t : ℕ) (open_to : ℕ → ℕ → Flags → Bool)
    (u c : ℕ) (op : ChanOp) : Type 0 where
  pub so_far : (s : ℕ) → u ≤ s → s ≤ t → NoneBetween ns m (slice_index ns u) c u s
      → DoesTheSame op (processor_at ns m (slice_index ns u) u) (history_at ns m c s)
      (history_at ns m c u)
  pub from_now : NoneBetween ns m (slice_index ns u) c u t → (h : List Event)
      → open_to (slice_index ns u) c (flags_of h) ≡ true
      → DoesTheSame op (processor_at ns m (slice_index ns u) u) h (history_at ns m c u)

-- step u, on channel c, raced with none up to moment t
pub record Passed (ns : List ℕ) (m : MachineState) (t : ℕ) (open_to : ℕ → ℕ → Flags → Bool)
    (u c : ℕ) (op : ChanOp) : Type 0 where
  pub exists : IsTrue (names_channel c)
  pub before : (s : ℕ) → MayFind ns m (slice_index ns u) c u s
      → length (history_at ns m c s) < length (history_at ns m c u)
      → Stays op (processor_at ns m (slice_index ns u) u) (history_at ns m c s)
      ⊎ DoesTheSame op (processor_at ns m (slice_index ns u) u) (history_at ns m c s)
      (history_at ns m c u)
  pub after : (history_at ns m c (suc u) ≢ history_at ns m c u) ⊎ IsOpen ns m t open_to u c op

-- After t steps: `least q c` is at most the number of events with which q may find channel c, and
-- `open_to q c` are the flags at which all looks of q at c since its last event there do the same.
pub record Watched (ns : List ℕ) (m : MachineState) (t : ℕ) (least : ℕ → ℕ → ℕ)
    (open_to : ℕ → ℕ → Flags → Bool) : Type 0 where
  pub lower : (q c s : ℕ) → MayFind ns m q c t s → least q c ≤ length (history_at ns m c s)
  pub stands_open : (q c : ℕ) → open_to q c (flags_of (history_at ns m c t)) ≡ true
  pub passed : (u : ℕ) → u < t → Waits (slice_index ns u) (at_moment ns m u)
      ⊎ ((c : ℕ) (op : ChanOp) → need_at ns m u ≡ Need.Channel c op
      → Passed ns m t open_to u c op)

-- Then what is checked before a step of processor n, of the machine as it stands: least and open_to
-- are what is kept before it, new_least and new_open what is kept after it.

-- the flags of a channel when its history had p events
abbrev pub flags_at : List Event → ℕ → Flags
flags_at h p = flags_of (take p h)

-- The step looks: it makes no event, and its processor goes on. At each number of events with which
-- it may have found its channel it waits or does the same; and it did not do so below the new least
-- one.
pub record IsLook (now : MachineState) (n c : ℕ) (op : ChanOp) (least new_least : ℕ → ℕ → ℕ)
    (open_to new_open : ℕ → ℕ → Flags → Bool) : Type 0 where
  pub needs : need (processor_of n now) ≡ Need.Channel c op
  pub exists : IsTrue (names_channel c)
  pub none : makes_none op (flags_of (history_of c now)) ≡ true
  pub moves : shown_to op (processor_of n now) (flags_of (history_of c now)) ≢ processor_of n now
  pub before : (p : ℕ) → least n c ≤ p → p < length (history_of c now)
      → WaitsAt op (processor_of n now) (flags_at (history_of c now) p)
      ⊎ DoesAsAt op (processor_of n now) (flags_at (history_of c now) p)
      (flags_of (history_of c now))
  pub least_most : new_least n c ≤ length (history_of c now)
  pub skipped : (p : ℕ) → least n c ≤ p → p < new_least n c
      → shown_to op (processor_of n now) (flags_at (history_of c now) p)
      ≢ shown_to op (processor_of n now) (flags_of (history_of c now))
  pub least_others : (x e : ℕ) → (x ≡ n → e ≡ c → ⊥) → new_least x e ≡ least x e
  pub open_here : (f : Flags) → new_open n c f ≡ true → (open_to n c f ≡ true)
      × DoesAsAt op (processor_of n now) f (flags_of (history_of c now))
  pub open_now : new_open n c (flags_of (history_of c now)) ≡ true
  pub open_others : (x e : ℕ) (f : Flags) → (x ≡ n → e ≡ c → ⊥) → new_open x e f ≡ open_to x e f

-- The step makes an event. At each number of events before it with which it may have found its
-- channel it waits; and the flags after it are open to all others.
pub record IsEvent (now : MachineState) (n c : ℕ) (op : ChanOp) (event : Event)
    (least new_least : ℕ → ℕ → ℕ) (open_to new_open : ℕ → ℕ → Flags → Bool) : Type 0 where
  pub needs : need (processor_of n now) ≡ Need.Channel c op
  pub exists : IsTrue (names_channel c)
  pub made : event_of op (history_of c now) ≡ Some event
  pub before : (p : ℕ) → least n c ≤ p → p < length (history_of c now)
      → WaitsAt op (processor_of n now) (flags_at (history_of c now) p)
  pub least_most : new_least n c ≤ length (history_of c now) + 1
  pub least_others : (x e : ℕ) → (x ≡ n → e ≡ c → ⊥) → new_least x e ≡ least x e
  pub open_now : new_open n c (flags_of (history_of c now ++ event ∷ [])) ≡ true
  pub open_to_others : (x : ℕ) → x ≢ n
      → open_to x c (flags_of (history_of c now ++ event ∷ [])) ≡ true
  pub open_others : (x e : ℕ) (f : Flags) → (x ≡ n → e ≡ c → ⊥) → new_open x e f ≡ open_to x e f

-- a step that is checked waits, needs no channel, looks or makes an event
pub data IsChecked (now : MachineState) (n : ℕ) (least new_least : ℕ → ℕ → ℕ)
    (open_to new_open : ℕ → ℕ → Flags → Bool) : Type 0 where
  step_waits : Waits n now → ((q c : ℕ) → new_least q c ≡ least q c)
      → ((q c : ℕ) (f : Flags) → new_open q c f ≡ open_to q c f)
      → IsChecked now n least new_least open_to new_open
  step_elsewhere : ((c : ℕ) (op : ChanOp) → need (processor_of n now) ≡ Need.Channel c op → ⊥)
      → ((q c : ℕ) → new_least q c ≡ least q c)
      → ((q c : ℕ) (f : Flags) → new_open q c f ≡ open_to q c f)
      → IsChecked now n least new_least open_to new_open
  step_looks : (c : ℕ) (op : ChanOp) → IsLook now n c op least new_least open_to new_open
      → IsChecked now n least new_least open_to new_open
  step_makes : (c : ℕ) (op : ChanOp) (event : Event)
      → IsEvent now n c op event least new_least open_to new_open
      → IsChecked now n least new_least open_to new_open
