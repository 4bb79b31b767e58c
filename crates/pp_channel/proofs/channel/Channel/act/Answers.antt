use Rattle.std.proofs.Common.{arith, sym, ◌∙◌}
use Rattle.std.proofs.lemmas.Grind.{common_steps}
use Rattle.pp_channel.proofs.AnswerLemmas.{answered_where_none}
use Rattle.pp_channel.proofs.channel.Channel.act.Goals as goal

pub returns-in_default-clause-answer : goal.returns-in_default-clause-answer
returns-in_default-clause-answer g c = answered_where_none c.args.self.now c.args.op c.shown.result c.next_event.ensures.lawful (sym c.next_event.ensures.event ∙ c.in_default.is) c.shown.ensures

pub returns-in_default-clause-reply : goal.returns-in_default-clause-reply
returns-in_default-clause-reply g c = grind (arith, common_steps)

pub returns-in_default-clause-history : goal.returns-in_default-clause-history
returns-in_default-clause-history g c = grind (arith, common_steps)

pub make-requires-clause-event : goal.make-requires-clause-event
make-requires-clause-event g c = grind (arith, common_steps)

pub make-requires-clause-twelve_bits : goal.make-requires-clause-twelve_bits
make-requires-clause-twelve_bits g c = grind (arith, common_steps)
