use Rattle.std.proofs.Common.{◌≡◌, ℕ, ◌+◌, sym, ap, ◌∙◌, subst, arith}
use Rattle.std.specs.Prelude.{slice_set}
use Rattle.pp_line.specs.declared.rule.LineView.{LineView}
use Rattle.pp_line.specs.ChannelWord.{number_in}
use Rattle.pp_line.specs.LineLog.{LogState, appended, event_entry}
use Rattle.pp_line.specs.LineState.{LineState}
use Rattle.pp_line.specs.LineSteps.{IsLogOf, IsWonExchange}
use Rattle.pp_line.proofs.LineKeeping.{exchange_won, exchange_lost, fields_of_load, log_of_event}
use Rattle.pp_line.proofs.line.Line.try_event.Goals as goal

pub exchange-found-requires-clause-loaded : goal.exchange-found-requires-clause-loaded
exchange-found-requires-clause-loaded g c = (c.requires.loaded.0, ap (λ (line : LineState). line.view) c.self.view_is ∙ c.requires.loaded.1)

-- the event was made
pub returns-then-found-word-clause-won : goal.returns-then-found-word-clause-won
returns-then-found-word-clause-won g c =
    let after = c.exchange-found.new.self.seat.me.0 in
    let won = exchange_won c.args.event c.exchange-found.ensures.exchange c.if-found-word.true in
    subst (λ (n : ℕ). IsWonExchange c.args.channel c.args.self.now.view n c.args.event after) c.if-found-word.true
    (subst (λ (line : LineState). IsWonExchange c.args.channel line.view c.exchange-found.result c.args.event after) c.self.view_is won)

pub returns-then-found-word-clause-log_after : goal.returns-then-found-word-clause-log_after
returns-then-found-word-clause-log_after g c =
    let won = exchange_won c.args.event c.exchange-found.ensures.exchange c.if-found-word.true in
    let written : c.did.new.self ≡ appended c.self.inside.log (event_entry c.args.channel (number_in c.exchange-found.result) c.args.event) = rw (← c.number_in-number.ensures.value) c.did.ensures in
    subst (λ (log : LogState). IsLogOf c.exchange-found.new.self.seat.me.0 log.entries) (sym written) (log_of_event won c.self.invariant.3)

pub invariant_of-self : goal.invariant_of-self
invariant_of-self g c =
    let won = exchange_won c.args.event c.exchange-found.ensures.exchange c.if-found-word.true in (
      (λ j. slice_set (c.self.invariant.0 j) (c.index.ensures.place j) (c.number_in-number.ensures.value j + 1)) ∙ ap (λ (v : LineView). v.seen) (sym won.after_is),
      c.self.invariant.1 ∙ ap (λ (v : LineView). v.shares) (sym won.after_is),
      c.self.invariant.2 ∙ ap (λ (v : LineView). v.whole) (sym won.after_is),
      returns-then-found-word-clause-log_after g c,
    )

-- another word stood there
pub invariant_of-self-2 : goal.invariant_of-self-2
invariant_of-self-2 g c =
    let lost = exchange_lost c.args.event c.exchange-found.ensures.exchange c.if-found-word.false in
    fields_of_load lost.load c.self.invariant (λ j. slice_set c.self.inside.seen (c.index-2.ensures.place j) (c.number_in-number.ensures.value j))

pub look-requires-clause-found : goal.look-requires-clause-found
look-requires-clause-found g c = grind (arith, exchange_lost)

pub returns-then-found-word-clause-event_written : goal.returns-then-found-word-clause-event_written
returns-then-found-word-clause-event_written g c = grind arith

pub returns-clause-lost : goal.returns-clause-lost
returns-clause-lost g c = grind (arith, exchange_lost)

pub returns-clause-look_written : goal.returns-clause-look_written
returns-clause-look_written g c = grind arith

pub returns-clause-log_after : goal.returns-clause-log_after
returns-clause-log_after g c = c.look.ensures.log_after
