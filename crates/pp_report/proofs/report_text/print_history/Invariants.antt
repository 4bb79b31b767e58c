use Rattle.std.proofs.Common.{List, All, take}
use Rattle.std.specs.List.{enumerate_from, flat_map}
use Rattle.pp_runner.specs.declared.worker.Worker.{Worker}
use Rattle.pp_report.specs.Authors.{AreAuthorsOn}
use Rattle.pp_text.specs.TextWriter.{Prints}
use Rattle.pp_report.specs.PrintedReport.{numbered_event_line}
use Rattle.pp_report.specs.ReportLaw.{FitsItsLine, printed_events}
use Rattle.pp_report.proofs.report_text.print_history.Given as goal

abbrev pub invariant-loop-number : goal.invariant-loop-number
invariant-loop-number g l = (workers : List (Worker g.row.A.Denot)) → AreAuthorsOn l.c workers l.channel l.authors
    → Prints g.W.Write.contents l.fn.text l.text (flat_map (numbered_event_line l.c workers) (enumerate_from 0 (take l.number l.channel)))
    × All FitsItsLine (printed_events l.c workers (take l.number l.channel))
