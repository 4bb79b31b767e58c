-- Traces that the barrel and threads print.
use Rattle.std.specs.Prelude.{◌≡◌, ℕ, ◌<◌, ◌^◌, All, Bool, IsTrue, List, length, map}
use Rattle.std.specs.List.Sorted.{IsStrictlyIncreasing}
use Rattle.pp_numbers.specs.ChannelNo.{names_channel}
use Rattle.pp_numbers.specs.Limits.{RunLimits}
use Rattle.pp_channel.specs.History.{history_on}
use Rattle.pp_machine.specs.Headline.{HoldsOnEachChannel}
use Rattle.pp_machine.specs.MachineState as machine_state
use Rattle.pp_machine.specs.MachineState.{MachineState}
use Rattle.pp_text.specs.TextLaw.{FitsItsText}
use Rattle.pp_runner.specs.Report.{IsReportOf}
use Rattle.pp_report.specs.ReportLaw.{FitsItsReport}
use Rattle.pp_report.specs.Types.{Report}
use Rattle.pp_check.specs.LawfulTrace.{is_opened}

-- the channels given as open before the trace are those that dead start opened
abbrev pub AreOpenedBy : MachineState → List Bool → Type 0
AreOpenedBy m opened =
    (c : ℕ) → IsTrue (names_channel c) → is_opened opened c ≡ machine_state.is_opened c m

-- a machine that keeps the headline and fits its text; its turns rise, of at most 19 decimal digits
pub record IsPrintable (named : List Bool) (m : MachineState) : Type 0 where
  pub headline : HoldsOnEachChannel m
  pub fits : FitsItsText named m
  pub rising : IsStrictlyIncreasing (map (λ e. e.turn) m.trace)
  pub few_turns : All (λ e. e.turn < 10 ^ 19) m.trace

-- a report of a run by threads that fits its text; event numbers have at most 19 decimal digits
pub record IsPrintableReport {Z : Type 0} (named : List Bool) (limits : RunLimits)
    (m : MachineState) (report : Report Z) : Type 0 where
  pub run : IsReportOf limits m report
  pub fits : FitsItsReport named report
  pub few_events : (c : ℕ) → IsTrue (names_channel c)
      → length (history_on c report.channels) < 10 ^ 19
