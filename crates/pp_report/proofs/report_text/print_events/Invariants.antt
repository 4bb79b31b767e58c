use Rattle.std.proofs.Common.{ℕ, ◌<◌, List, All}
use Rattle.std.specs.List.{flat_map}
use Rattle.pp_numbers.specs.Tables.{tabulate}
use Rattle.pp_numbers.specs.ChannelNo.{channel_number}
use Rattle.pp_channel.specs.History.{history_on}
use Rattle.pp_runner.specs.declared.worker.Worker.{Worker}
use Rattle.pp_report.specs.Authors.{AreAuthors}
use Rattle.pp_text.specs.TextWriter.{Prints}
use Rattle.pp_report.specs.PrintedReport.{channel_events}
use Rattle.pp_report.specs.ReportLaw.{FitsItsLine, printed_events}
use Rattle.pp_report.proofs.report_text.print_events.Given as goal

abbrev pub invariant-loop-place : goal.invariant-loop-place
invariant-loop-place g l = (workers : List (Worker g.row.A.Denot)) → AreAuthors workers l.channels l.authors
    → Prints g.W.Write.contents l.fn.text l.text (flat_map (channel_events workers l.channels) (tabulate l.place channel_number))
    × ((k : ℕ) → k < l.place → All FitsItsLine (printed_events (channel_number k) workers (history_on (channel_number k) l.channels)))
