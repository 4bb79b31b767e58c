-- Workers that run at once, with their lines. (Only private contracts cite this.)
use Rattle.std.specs.Prelude.{◌≡◌, ◌≤◌, ◌+◌, ◌*◌, ℕ, List, [], All, length}
use Rattle.std.specs.declared.vec.Vec.{Vec}
use Rattle.pp_line.specs.LineState.{LineState, IsSplitFrom}
use Rattle.pp_line.specs.LineLog.{seen_on}
use Rattle.pp_line.specs.Merge.{IsOpeningLog}
use Rattle.pp_runner.specs.Types.{Ended, Entry, Worker}
use Rattle.pp_runner.specs.declared.crew.Begun.{Begun}
use Rattle.pp_machine.specs.Headline.{opening_history}
use Rattle.pp_machine.specs.MachineState.{MachineState}
use Rattle.pp_processor.specs.Processor.{Processor}
use Rattle.pp_numbers.specs.PpNo.{processor_count}
use Rattle.pp_runner.specs.WorkerState.{HasMade, HasSeen, IsSameLine}
use Rattle.pp_runner.specs.End.{WornWithCause}
use Rattle.pp_runner.specs.WorkerReport.{IsWorker}

-- The workers of the barrel's first processors are ready, each on one of lines split from one,
-- beside central memory of this size.
pub record AreReady (m : MachineState) (size steps : ℕ) (family : LineState)
    (lines : List LineState) : Type 0 where
  pub each : length m.processors ≡ processor_count
  pub count : length lines ≤ processor_count
  pub central : length family.view.central ≡ size
  pub fresh : All (IsSplitFrom family (2 * steps + 1)) lines

-- A line has opened the channels that dead start opened, and seen that: its log has an Activate for
-- each, and no other event. It holds some of all shares, beside the machine's central memory.
pub record HasOpened (m : MachineState) (all some : ℕ) (line : LineState) : Type 0 where
  pub opening : IsOpeningLog (λ c. opening_history c m) line.log.entries
  pub seen : HasSeen (λ c. length (opening_history c m)) line
  pub whole : line.view.whole ≡ all
  pub shares : line.view.shares ≡ some
  pub no_write : line.view.written ≡ []
  pub central : line.view.central ≡ m.central

-- a worker that has ended, with its log
abbrev pub worker_of : {A : Type 0} → Ended A × Vec Entry A → Worker A
worker_of left =
    record { pp = left.0.pp; log = left.1; answers = left.0.answers; finish = left.0.finish }

-- A worker that began with this processor and line has ended; the line has its log and accesses.
pub record IsEnded {A : Type 0} (load : Processor) (size steps : ℕ) (line : LineState)
    (ended : Ended A) (after : LineState) : Type 0 where
  pub worker : (log : Vec Entry A) → log.items ≡ after.log.entries
      → IsWorker load size steps (worker_of (ended, log))
  pub made : HasMade load ended.answers.items after.log.entries after.view
  pub worn : WornWithCause (λ c. seen_on c after.view.seen) ended.finish ended.pp
  pub same_line : IsSameLine line after

-- one that began with a line that was split from this family's
pub record HasEnded {A : Type 0} (size steps : ℕ) (family : LineState) (load : Processor)
    (ended : Ended A × LineState) : Type 0 where
  pub line : LineState
  pub fresh : IsSplitFrom family (2 * steps + 1) line
  pub has : IsEnded load size steps line ended.0 ended.1

-- a worker has begun with this processor and one of these lines
abbrev pub HasBegun : {A : Type 0} → Processor → ℕ → ℕ → LineState → Begun A → Type 0
HasBegun load size steps family (Begun.Here number line) = IsSplitFrom family (2 * steps + 1) line
HasBegun load size steps family (Begun.Apart child) =
    IsSplitFrom family (2 * steps + 1) child.promise.line.value
    × (child.promise.load.value ≡ load) × (child.promise.run.value.size ≡ size)
    × (child.promise.run.value.limits.steps ≡ steps)
