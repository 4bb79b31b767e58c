-- What is kept of a run as it goes, to find the steps that may race with others: of each processor
-- and channel the events of others that it may not have seen yet, each with the flags before it.
use Rattle.std.specs.Prelude.{ℕ, Bool, false, not, ◌||◌, ◌&&◌, ◌==◌, List, [], ◌∷◌, ◌++◌, Option, Some, None, is_some, find, option_map, if◌then◌else◌}
use Rattle.std.specs.Option.{option_or}
use Rattle.pp_word.specs.Address.{next_place}
use Rattle.pp_channel.specs.Answer.{event_of, flags_of, flags_after}
use Rattle.pp_channel.specs.declared.{chan_op.ChanOp.ChanOp, event.Event.Event, flags.Flags.Flags}
use Rattle.pp_machine.specs.MachineState.{MachineState, processor_of, history_of}
use Rattle.pp_machine.specs.MachineStep.{stepped}
use Rattle.pp_processor.specs.NeedAndEffect.{need}
use Rattle.pp_numbers.specs.PpNo.{processor_count, processor_number}
use Rattle.pp_processor.specs.Processor.{word_at}
use Rattle.pp_processor.specs.declared.{need.Need.Need}
use Rattle.pp_machine.specs.declared.{trace.Trace.Trace}
use Rattle.pp_processor.specs.declared.need.Need.TheVariants.{Channel, Read, Write}
use Rattle.pp_races.specs.OtherFlags.{waits_at, found_at, is_alike, is_race}
use Rattle.pp_races.specs.declared.{asking_step.AskingStep.AskingStep, finding.Finding.Finding}
pub use Rattle.pp_races.specs.declared.missed.Missed.{Missed}
use Rattle.pp_races.specs.declared.finding.Finding.TheVariants.{Before, After}
unfoldable pub use Rattle.pp_text.specs.PrintedText.{each_below}

-- an event of the trace, and the flags of its channel before it
abbrev pub missed_event : Flags → Trace → Missed
missed_event flags entry = record { found = flags; entry = entry }

-- By processor and channel, the events that the processor may still find to come, in order; and for
-- each flags the first of its looks, since its last event there, that would have done otherwise at
-- them. By address and processor, whether a step of the processor wrote the central word, and
-- whether one used it. And what was found so far.
pub record Watch : Type 0 where
  pub missed : ℕ → ℕ → List Missed
  pub looks : ℕ → ℕ → Flags → Option AskingStep
  pub wrote : ℕ → ℕ → Bool
  pub used : ℕ → ℕ → Bool
  pub findings : List Finding

-- before the first step
abbrev pub unwatched : Watch
unwatched = record {
  missed = λ q c. [];
  looks = λ q c flags. None;
  wrote = λ a q. false;
  used = λ a q. false;
  findings = [];
}

-- the next step of processor n, which asks channel c: its turn, its place, and the instruction that
-- runs, by its word and the next, or by the block in progress
abbrev pub asking_step : ℕ → ℕ → MachineState → AskingStep
asking_step n c m =
    let pp = processor_of n m in
    record {
      turn = m.turns;
      pp = n;
      channel = c;
      p = pp.p;
      word = word_at pp pp.p;
      next = word_at pp (next_place pp.p);
      block = pp.block;
    }

-- the first of these events at whose flags the step would race
abbrev pub first_race : (Flags → Bool) → List Missed → Option Trace
first_race races missed = option_map (λ (e : Missed). e.entry) (find (λ e. races e.found) missed)

abbrev pub race_before : AskingStep → Option Trace → List Finding
race_before step None = []
race_before step (Some entry) = Before step entry ∷ []

abbrev pub race_after : Option AskingStep → Trace → List Finding
race_after None entry = []
race_after (Some look) entry = After look entry ∷ []

-- the events from the first on before which the look would have done the same
abbrev pub from_alike : (Flags → Bool) → List Missed → List Missed
from_alike alike [] = []
from_alike alike (e ∷ missed) = if alike e.found then e ∷ missed else from_alike alike missed

-- one entry put in place of another
abbrev pub put : {X : Type 0} → ℕ → ℕ → X → (ℕ → ℕ → X) → ℕ → ℕ → X
put n c x entries q e = if q == n && e == c then x else entries q e

-- A look of processor n: it asks channel c, makes no event and moves.
abbrev pub looked : ℕ → ℕ → ChanOp → MachineState → Watch → Watch
looked n c op m w =
    let pp = processor_of n m in
    let found = found_at op pp (flags_of (history_of c m)) in
    let step = asking_step n c m in
    record w {
      missed = put n c (from_alike (λ f. is_alike (found f)) (w.missed n c)) w.missed;
      looks = put n c (λ f. option_or (w.looks n c f)
          (if is_alike (found f) then None else Some step)) w.looks;
      findings = w.findings
          ++ race_before step (first_race (λ f. is_race (found f)) (w.missed n c));
    }

-- what there is of each processor, in order of number
abbrev pub each_number : {X : Type 0} → (ℕ → List X) → List X
each_number of = each_below processor_count (λ place. of (processor_number place))

-- its entry in the trace, if the next step of processor n makes this event on channel c
abbrev pub entry_of : ℕ → ℕ → Event → MachineState → Trace
entry_of n c event m = record { turn = m.turns; pp = n; channel = c; event = event }

-- An event of processor n on channel c: all others may miss it, and those whose looks would have
-- done otherwise at the flags after it are done with these looks.
abbrev pub made : ℕ → ℕ → ChanOp → Event → MachineState → Watch → Watch
made n c op event m w =
    let pp = processor_of n m in
    let flags = flags_of (history_of c m) in
    let after = flags_after event in
    let entry = entry_of n c event m in
    record w {
      missed = λ q e. if e == c
          then (if q == n then [] else w.missed q e ++ missed_event flags entry ∷ [])
          else w.missed q e;
      looks = λ q e f. if e == c
          then (if q == n || is_some (w.looks q e after) then None else w.looks q e f)
          else w.looks q e f;
      findings = w.findings
          ++ race_before (asking_step n c m)
          (first_race (λ f. not (waits_at op pp f)) (w.missed n c))
          ++ each_number (λ q. if q == n then [] else race_after (w.looks q c after) entry);
    }

abbrev pub asked : ℕ → ℕ → ChanOp → Option Event → MachineState → Watch → Watch
asked n c op (Some event) m w = made n c op event m w
asked n c op None m w =
    if waits_at op (processor_of n m) (flags_of (history_of c m)) then w else looked n c op m w

-- what is kept after the next step of processor n, with this need
abbrev pub watched_need : Need → ℕ → MachineState → Watch → Watch
watched_need (Channel c op) n m w = asked n c op (event_of op (history_of c m)) m w
watched_need (Read a) n m w =
    record w { used = λ b q. w.used b q || (b == a && q == n) }
watched_need (Write a word) n m w =
    record w {
      used = λ b q. w.used b q || (b == a && q == n);
      wrote = λ b q. w.wrote b q || (b == a && q == n);
    }
watched_need _ n m w = w

unfoldable pub watched_step : ℕ → MachineState → Watch → Watch
watched_step n m w = watched_need (need (processor_of n m)) n m w

-- and after these steps
abbrev pub watched : List ℕ → MachineState → Watch → Watch
watched [] m w = w
watched (n ∷ ns) m w = watched ns (stepped n m) (watched_step n m w)
