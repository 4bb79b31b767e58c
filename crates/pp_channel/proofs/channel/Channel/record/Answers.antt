use Rattle.pp_channel.proofs.AnswerLemmas.{kept_with_event}
use Rattle.pp_channel.proofs.channel.Channel.record.Goals as goal

-- the fields after the event are those of the longer history
pub invariant_of-self-2 : goal.invariant_of-self-2
invariant_of-self-2 g c = kept_with_event c.args.event c.self.invariant c.self.view_is c.requires.lawful c.requires.twelve_bits c.flags_after-flags.ensures c.word_put-register.ensures c.in_ok-push.ensures.items
