-- What one run of a machine determines of a run by threads.
use Rattle.std.specs.Prelude.{◌≡◌, ◌⊎◌, ℕ, List, All, slice_index_or}
use Rattle.pp_channel.specs.History.{history_on}
use Rattle.pp_report.specs.Types.{ChanOp, End, Need, Report}
use Rattle.pp_machine.specs.MachineState.{MachineState}
use Rattle.pp_processor.specs.NeedAndEffect.{need}
use Rattle.pp_numbers.specs.PpNo.{processor_index}
use Rattle.pp_processor.specs.Processor.{Processor, IsAtRest, no_processor}
use Rattle.pp_run.specs.Determinacy.{Stays, TurnsInPlace, history_at, processor_at}
use Rattle.pp_runner.specs.declared.end.End.TheVariants.{Fault, Stopped}
use Rattle.pp_report.specs.Serial.{processors_left}

-- a processor waits for a channel with the history that a report gives
pub record WaitsIn {A : Type 0} (report : Report A) (pp : Processor) : Type 0 where
  pub channel : ℕ
  pub operation : ChanOp
  pub needs : need pp ≡ Need.Channel channel operation
  pub stays : Stays operation pp (history_on channel report.channels)

-- it cannot move: it is at rest, or jumps to itself, or waits for a channel as all workers left it
abbrev pub CannotMove : {A : Type 0} → Report A → Processor → Type 0
CannotMove report pp = IsAtRest pp ⊎ (TurnsInPlace pp ⊎ WaitsIn report pp)

-- a run by threads is over: no worker's processor can move
abbrev pub IsOver : {A : Type 0} → Report A → Type 0
IsOver report = All (λ w. CannotMove report w.pp) report.ends.items

-- a worker ended because its processor came to rest
abbrev pub EndsAtRest : End → Type 0
EndsAtRest Stopped = Unit {0}
EndsAtRest (Fault number) = Unit {0}
EndsAtRest finish = ⊥

-- each processor and each channel of a report stands as at some moment of a list of steps
pub record ShowsPartsOf {A : Type 0} (ns : List ℕ) (m : MachineState) (report : Report A) : Type 0
  where
    pub processors : (n : ℕ) → (t : ℕ)
        × (slice_index_or (processors_left m report) (processor_index n) no_processor
        ≡ processor_at ns m n t)
    pub channels : (c : ℕ) → (s : ℕ) × (history_on c report.channels ≡ history_at ns m c s)
