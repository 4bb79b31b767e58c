-- The types of channels and lines, from one place.
pub use Rattle.pp_channel.specs.declared.{chan_op.ChanOp.ChanOp, event.Event.Event, flags.Flags.Flags, numbered.Numbered.Numbered, reply.Reply.Reply, seen.Seen.Seen}
pub use Rattle.pp_channel.specs.declared.seen.Seen.TheVariants.{Did, Saw}
pub use Rattle.pp_line.specs.declared.{access.Access.Access, entry.Entry.Entry, rule.FoundWord.FoundWord, rule.LineView.LineView, word_step.WordStep.WordStep}
pub use Rattle.pp_line.specs.declared.access.Access.TheVariants.{OnChannel, Read, Write}
