use Rattle.std.proofs.Common.{rules, arith, map, length, ap, sym, ◌∙◌}
use Rattle.std.proofs.lemmas.List.{length-map, map-id}
use Rattle.std.proofs.lemmas.Iterator.Adapters.{YieldsList-from_vec}
use Rattle.std.proofs.lemmas.Iterator.Consumers.{YieldsList-end, YieldsList-turn}
use Rattle.pp_runner.specs.Crew.{worker_of}
use Rattle.pp_runner.proofs.worker.workers.Goals as goal

pub push_reserved-requires : goal.push_reserved-requires
push_reserved-requires g c =
    let turn = YieldsList-turn (YieldsList-from_vec c.args.crew.items (search rules) (search rules)) c.loop-ended.yielded c.loop-ended.ended-iterator c.loop-ended.yielded_by _ c.next.new.self _ c.in-Some.is c.next.ensures.steps in
    omega (arith, turn.0, ap length c.loop-ended.invariant.made, length-map c.loop-ended.yielded worker_of, c.loop-ended.workers.ok.0, c.args.crew.ok.0, c.loop-ended.invariant.room)

pub returns : goal.returns
returns g c =
    let all = YieldsList-end (YieldsList-from_vec c.args.crew.items (search rules) (search rules)) c.loop-ended.yielded c.loop-ended.ended-iterator c.loop-ended.yielded_by _ c.next.new.self c.in-None.is c.next.ensures.steps in
    c.loop-ended.invariant.made ∙ ap (map worker_of) (sym (map-id c.loop-ended.yielded) ∙ all.0)
