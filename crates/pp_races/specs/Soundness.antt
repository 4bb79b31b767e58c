-- What a watch in which nothing is found says of the run. (Private contracts alone cite this.)
use Rattle.std.specs.Prelude.{◌≡◌, ℕ, ◌+◌, ◌-◌, ◌<◌, ◌≤◌, Bool, true, IsTrue, List, is_none, length, slice_index, slice_index_or, take, if◌then◌else◌}
use Rattle.pp_channel.specs.Answer.{flags_of}
use Rattle.pp_numbers.specs.ChannelNo.{names_channel}
use Rattle.pp_channel.specs.History.{IsLawful, HasTwelveBitWords}
use Rattle.pp_channel.specs.declared.{event.Event.Event, flags.Flags.Flags}
use Rattle.pp_machine.specs.MachineState.{MachineState, history_of, processor_of}
use Rattle.pp_processor.specs.NeedAndEffect.{need, processor_after}
use Rattle.pp_numbers.specs.PpNo.{names_processor}
use Rattle.pp_processor.specs.declared.{answer.Answer.Answer, need.Need.Need}
use Rattle.pp_run.specs.Determinacy.{UsesAt, WritesAt, at_moment, history_at, need_at}
use Rattle.pp_races.specs.Findings.{turns_in_place}
use Rattle.pp_races.specs.OnePass.{Watched}
use Rattle.pp_races.specs.Watch.{Missed, Watch}

-- the events missed are the last of a history, each with the flags before it
pub record AreLastOf (h : List Event) (missed : List Missed) : Type 0 where
  pub few : length missed ≤ length h
  pub each : (p k : ℕ) (d : Missed) → k < length missed → p + length missed ≡ length h + k
      → (slice_index_or missed k d).found ≡ flags_of (take p h)

-- the least number of events with which processor q may find channel c
abbrev pub least_of : Watch → MachineState → ℕ → ℕ → ℕ
least_of w m q c = length (history_of c m) - length (w.missed q c)

-- whether no look of processor q at channel c would have done otherwise at these flags
abbrev pub open_of : Watch → ℕ → ℕ → Flags → Bool
open_of w q c f = if names_processor q then is_none (w.looks q c f) else true

-- a step asks a channel that exists, and whose history is lawful
abbrev pub AsksLawfulChannel : Need → MachineState → Type 0
AsksLawfulChannel (Need.Channel c op) m =
    IsTrue (names_channel c) × IsLawful (history_of c m) × HasTwelveBitWords (history_of c m)
AsksLawfulChannel other m = Unit {0}

-- after t steps
pub record IsSound (ns : List ℕ) (m : MachineState) (t : ℕ) (w : Watch) : Type 0 where
  pub watched : Watched ns m t (least_of w (at_moment ns m t)) (open_of w)
  pub missed : (q c : ℕ) → AreLastOf (history_at ns m c t) (w.missed q c)
  pub used : (u a : ℕ) → u < t → UsesAt a (need_at ns m u) → w.used a (slice_index ns u) ≡ true
  pub wrote : (u a : ℕ) → u < t → WritesAt a (need_at ns m u) → w.wrote a (slice_index ns u) ≡ true

-- each processor that turns in place stays as it is
abbrev pub TurnTestIsExact : MachineState → ℕ → Type 0
TurnTestIsExact m q =
    need (processor_of q m) ≡ Need.Local → turns_in_place (processor_of q m) ≡ true
    → processor_after (processor_of q m) Answer.Local ≡ processor_of q m
