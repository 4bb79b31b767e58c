-- The text of a run with one thread per processor.
use Rattle.std.specs.Prelude.{◌≡◌, ℕ, List}
use Rattle.pp_deck.specs.DeckLaw.{NamesWithin}
use Rattle.pp_deck.specs.DeckMeaning.{LoadedDeck}
use Rattle.pp_report.specs.EveryRun.{HoldsOfThreads}
use Rattle.pp_runner.specs.Report.{IsReportOf}
use Rattle.pp_numbers.specs.Limits.{RunLimits}
use Rattle.pp_runner.specs.declared.report.Report.{Report}
use Rattle.pp_report.specs.PrintedReport.{printed_report}
use Rattle.pp_report.specs.ReportLaw.{FitsItsReport}

-- a text of a loaded deck, which names no processor that its machine lacks, and ran with one thread
-- per processor within these limits: that of a report of the run, of which the headline holds; and
-- all that the report shows fits its lines, so that the text shows it
pub record IsThreadsText (Z : Type 0) (limits : RunLimits) (deck : LoadedDeck) (text : List ℕ) :
    Type 0 where
  pub report : Report Z
  pub named : NamesWithin deck.machine.profile deck.named
  pub run : IsReportOf limits deck.machine report
  pub headline : HoldsOfThreads deck.machine report run.order
  pub text_is : text ≡ printed_report deck.named report
  pub fits : FitsItsReport deck.named report
