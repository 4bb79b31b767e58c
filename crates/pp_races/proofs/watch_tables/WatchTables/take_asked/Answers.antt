use Rattle.std.proofs.Common.{sym, ap, ◌∙◌}
use Rattle.pp_channel.specs.Answer.{event_of}
use Rattle.pp_races.proofs.watch_tables.WatchTables.take_asked.Goals as goal

pub returns-in-Some-clause-watched : goal.returns-in-Some-clause-watched
returns-in-Some-clause-watched g c =
    rw (ap (event_of c.args.asked.now.op) (sym c.channel-channel.ensures.value) ∙ sym c.next_event.ensures.event ∙ c.in-Some.is) c.take_event.ensures

pub returns-then-waits-clause-watched : goal.returns-then-waits-clause-watched
returns-then-waits-clause-watched g c =
    rw (ap (event_of c.args.asked.now.op) (sym c.channel-channel.ensures.value) ∙ sym c.next_event.ensures.event ∙ c.in_default.is, sym c.waits.ensures ∙ c.if-waits.true) (λ size w are. are)

pub returns-clause-watched : goal.returns-clause-watched
returns-clause-watched g c =
    rw (ap (event_of c.args.asked.now.op) (sym c.channel-channel.ensures.value) ∙ sym c.next_event.ensures.event ∙ c.in_default.is, sym c.waits.ensures ∙ c.if-waits.false) c.take_look.ensures
