-- The types of channels, processors and reports, from one place.
pub use Rattle.pp_runner.specs.Types.{Access, Answer, ChanOp, Did, Entry, Event, Flags, Moved, Need, OnChannel, Outcome, PpState, Profile, Read, Reply, Saw, Seen, Write}
pub use Rattle.pp_runner.specs.declared.{end.End.End, report.Report.Report, worker.Worker.Worker}
