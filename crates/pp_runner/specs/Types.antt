-- The types of channels, lines, processors and workers, from one place.
pub use Rattle.pp_line.specs.Types.{ChanOp, Did, Event, Flags, Numbered, Reply, Saw, Seen}
pub use Rattle.pp_line.specs.declared.{access.Access.Access, entry.Entry.Entry, rule.FoundWord.FoundWord, rule.LineView.LineView}
pub use Rattle.pp_line.specs.declared.access.Access.TheVariants.{OnChannel, Read, Write}
pub use Rattle.pp_processor.specs.declared.{answer.Answer.Answer, need.Need.Need, outcome.Outcome.Outcome, pp_state.PpState.PpState}
pub use Rattle.pp_processor.specs.declared.outcome.Outcome.TheVariants.{Moved}
pub use Rattle.pp_numbers.specs.declared.profile.Profile.{Profile}
pub use Rattle.pp_runner.specs.declared.{end.End.End, report.Report.Report, worker.Ended.Ended, worker.Worker.Worker}
