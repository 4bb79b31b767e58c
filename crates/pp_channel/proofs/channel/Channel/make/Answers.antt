use Rattle.pp_channel.proofs.AnswerLemmas.{lawful_with_event}
use Rattle.pp_channel.proofs.channel.Channel.make.Goals as goal

-- the history stays lawful with the event of the table
pub record-requires-clause-lawful : goal.record-requires-clause-lawful
record-requires-clause-lawful g c = lawful_with_event _ c.args.op c.args.event c.history-lawful.ensures.lawful c.requires.event
