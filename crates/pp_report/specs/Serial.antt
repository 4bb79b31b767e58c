-- What threads do, as what one list of steps does.
use Rattle.std.specs.Prelude.{◌≡◌, ◌==◌, ℕ, IsTrue, List, [], ◌∷◌, ◌++◌, All, Some, drop, if◌then◌else◌, map, slice_get, length, take}
use Rattle.std.specs.List.{sum_by}
use Rattle.pp_numbers.specs.ChannelNo.{channel_count, names_channel}
use Rattle.pp_line.specs.Order.{left_by}
use Rattle.pp_report.specs.Types.{Access, Answer, Moved, Report, Worker}
use Rattle.pp_machine.specs.Headline.{opening_history}
use Rattle.pp_machine.specs.MachineState.{MachineState, history_of, processor_of}
use Rattle.pp_processor.specs.NeedAndEffect.{need}
use Rattle.pp_numbers.specs.PpNo.{processor_count, processor_number}
use Rattle.pp_processor.specs.Processor.{Processor}
use Rattle.pp_numbers.specs.Profile.{processors_in, has_processor}
use Rattle.pp_machine.specs.MachineStep.{answer_to, step_outcome, stepped}
use Rattle.pp_machine.specs.Run.{run}

-- a machine that has not run: it has all processors and channels, and on these nothing has happened
-- but that dead start opened some
pub record HasNotRun (m : MachineState) : Type 0 where
  pub processors : length m.processors ≡ processor_count
  pub channels : length m.histories ≡ channel_count
  pub histories : (c : ℕ) → IsTrue (names_channel c) → history_of c m ≡ opening_history c m

-- the processors as a report leaves them, in the order of the barrel; those of no worker stay
abbrev pub processors_left : {A : Type 0} → MachineState → Report A → List Processor
processors_left m report =
    map (λ w. w.pp) report.ends.items ++ drop (processors_in m.profile) m.processors

-- The steps of these processors, one after another, lead a machine to what a report of it leaves,
-- whose accesses came in this order: all processors, all histories, all words of central memory.
pub record LeadsToReport {A : Type 0} (ns : List ℕ) (m : MachineState) (report : Report A)
    (order : List Access) : Type 0 where
  pub processors : (run ns m).processors ≡ processors_left m report
  pub histories : (run ns m).histories ≡ report.channels
  pub central : (run ns m).central ≡ left_by m.central order

-- the answers that the steps of processor n get along a list of steps, in order
abbrev pub answers_along : ℕ → List ℕ → MachineState → List Answer
answers_along n [] m = []
answers_along n (k ∷ ns) m = (if n == k then answer_to (need (processor_of k m)) m ∷ [] else [])
    ++ answers_along n ns (stepped k m)

-- A serial run of a report: steps, one after another, that lead to what it leaves, as many as its
-- workers made. Each has the outcome `Moved`, also a jump to itself: none is held, and none is made
-- at rest. The steps of each worker's processor get the very answers that the worker got, in order.
pub record IsSerialRunOf {A : Type 0} (ns : List ℕ) (m : MachineState) (report : Report A)
    (order : List Access) : Type 0 where
  pub leads : LeadsToReport ns m report order
  pub named : All (λ n. IsTrue (has_processor m.profile n)) ns
  pub steps : length ns ≡ sum_by (λ w. length w.answers.items) report.ends.items
  pub moved : (i n : ℕ) → slice_get ns i ≡ Some n → step_outcome n (run (take i ns) m) ≡ Moved
  pub answers : (place : ℕ) (w : Worker A) → slice_get report.ends.items place ≡ Some w
      → answers_along (processor_number place) ns m ≡ w.answers.items
