use Rattle.std.proofs.lemmas.Grind.{common_steps}
use Rattle.std.proofs.Common.{arith, ◌≡◌, ◌+◌, List, [], length, replicate, ap, ◌∙◌}
use Rattle.std.proofs.lemmas.List.{length-replicate}
use Rattle.pp_channel.specs.declared.event.Event.{Event}
use Rattle.pp_machine.proofs.HeadlineLemmas.{headline_of_none}
use Rattle.pp_machine.proofs.machine.new_channels.Goals as goal

pub loop-preserved : goal.loop-preserved
loop-preserved g c =
    let row : c.push_reserved.new.self.items ≡ replicate (c.loop.counter + 1) [] = grind (arith, common_steps) in
    record {
      without_history = row;
      room = c.push_reserved.ensures.capacity ∙ c.loop.invariant.room;
      headline = λ k below. headline_of_none _ _ _ row c.new-channel.ensures c.history-history.ensures.lawful c.history-history.ensures.law k;
    }

pub push_reserved-requires : goal.push_reserved-requires
push_reserved-requires g c = omega (arith, c.loop.channels.ok.0, ap length c.loop.invariant.without_history, length-replicate {A = List Event} c.loop.counter [])

pub returns-clause-items : goal.returns-clause-items
returns-clause-items g c = grind arith
