-- What a report of a run says.
use Rattle.std.specs.Prelude.{◌≡◌, ◌≤◌, List, length, take, All}
use Rattle.std.specs.Borrow.{RattleType}
use Rattle.std.specs.List.{flat_map}
use Rattle.std.specs.Mem.{FitsInMemory}
use Rattle.std.specs.declared.alloc.Allocator.{Ghosts}
use Rattle.pp_numbers.specs.ChannelNo.{channel_count}
use Rattle.pp_channel.specs.History.{IsLawful, HasTwelveBitWords, history_on}
use Rattle.pp_channel.specs.Law.{KeepsLaw}
use Rattle.pp_line.specs.Merge.{Merges}
use Rattle.pp_line.specs.Order.{IsTotalOrderOf, entries_among, writes_among, FindsWords, AreMade}
use Rattle.pp_runner.specs.Types.{Access, Report}
use Rattle.pp_machine.specs.Headline.{opening_history}
use Rattle.pp_machine.specs.MachineState.{MachineState}
use Rattle.pp_numbers.specs.Profile.{processors_in}
use Rattle.pp_runner.specs.Accesses.{HaveAccessed}
use Rattle.pp_numbers.specs.Limits.{RunLimits}
use Rattle.pp_runner.specs.End.{WornWithCause}
use Rattle.pp_runner.specs.WorkerReport.{AreWorkers, logs_of}
use Rattle.pp_runner.specs.contracts.report.Report.{the_row}

-- A report of a run of this machine within these limits: a worker for each processor of its
-- profile, in their order, and the channels, whose histories are lawful, keep the law of sessions,
-- and are what the workers' logs merge to. The workers began when dead start's channels were open:
-- nothing that one did or saw is older than the opening history of its channel. A worker ended as
-- worn only at a channel whose history has as many events as its word can count. There is one total
-- order of all accesses to channels and to central memory, after what dead start opened: each read
-- in it finds the word that was written last, or the machine's, and each write in it is one that
-- one worker's answers made; the accesses of each worker stand in it in their order, and so does
-- its log. No report shows how often a worker was held, so the patience is not stated.
pub record IsReportOf {A : Type 0} (limits : RunLimits) (machine : MachineState) (report : Report A)
    : Type 0 where
  pub each_processor : length report.ends.items ≡ processors_in machine.profile
  pub workers : AreWorkers (take (processors_in machine.profile) machine.processors)
      (length machine.central) limits.steps report.ends.items
  pub each_channel : length report.channels ≡ channel_count
  pub lawful : All IsLawful report.channels
  pub law : All KeepsLaw report.channels
  pub twelve_bits : All HasTwelveBitWords report.channels
  pub merged : Merges (λ c. opening_history c machine) report.channels (logs_of report.ends.items)
  pub begun : All (λ entry. length (opening_history entry.channel machine) ≤ entry.number)
      (logs_of report.ends.items)
  pub order : List Access
  pub total : IsTotalOrderOf (λ c. opening_history c machine) report.channels (entries_among order)
  pub finds : FindsWords machine.central order
  pub accesses : List (List Access)
  pub accessed : HaveAccessed (take (processors_in machine.profile) machine.processors) order
      report.ends.items accesses
  pub made : AreMade (flat_map writes_among accesses) order
  pub worn : All (λ w. WornWithCause (λ c. length
      (history_on c report.channels)) w.finish w.pp) report.ends.items

-- a report takes less than all of memory, as is so wherever a value of it exists
abbrev pub ReportFitsInMemory : (A : RattleType) → Ghosts A.Denot → Type 0
ReportFitsInMemory A alloc = FitsInMemory (the_row A alloc)
