-- THE HEADLINE, of every run of a deck. After any list of processor steps from any loaded deck, on
-- each channel, in every session, the words taken are the first of the words put, all but at most
-- one, which is lost only if a Disconnect finds the channel full, directly after its Put, and no
-- word is put or taken outside a session. The histories that threads leave obey the same law.
use Rattle.std.specs.Prelude.{ℕ, IsTrue, List}
use Rattle.pp_numbers.specs.ChannelNo.{names_channel}
use Rattle.pp_channel.specs.History.{history_on}
use Rattle.pp_line.specs.Order.{entries_among, made_on}
use Rattle.pp_report.specs.Types.{Access, Report}
use Rattle.pp_machine.specs.Headline.{HoldsOnChannel, HoldsOnEachChannel, opening_history}
use Rattle.pp_machine.specs.MachineState.{MachineState}
use Rattle.pp_machine.specs.Run.{run}
use Rattle.pp_numbers.specs.Limits.{RunLimits}
use Rattle.pp_runner.specs.Report.{IsReportOf}
use Rattle.pp_report.specs.Serial.{IsSerialRunOf}

-- It holds of a report by threads, whose accesses came in this order: what holds of each channel
-- after any list of steps holds of each channel here; and some list of steps leads to the very
-- processors and histories, and to the words of central memory that the accesses leave.
pub record HoldsOfThreads {A : Type 0} (m : MachineState) (report : Report A) (order : List Access)
    : Type 0 where
  pub channels : (c : ℕ) → IsTrue (names_channel c) → HoldsOnChannel (opening_history c m)
      (made_on c (entries_among order)) (history_on c report.channels)
  pub steps : (ns : List ℕ) × IsSerialRunOf ns m report order

-- It holds of each run of a machine: by any list of steps, and by threads within any limits.
pub record HoldsOfEveryRun (A : Type 0) (m : MachineState) : Type 0 where
  pub steps : (ns : List ℕ) → HoldsOnEachChannel (run ns m)
  pub threads : (limits : RunLimits) (report : Report A) (is : IsReportOf limits m report)
      → HoldsOfThreads m report is.order
