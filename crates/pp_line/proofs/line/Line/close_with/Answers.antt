use Rattle.std.proofs.Common.{rules, [], ◌∷◌, ◌++◌, List, length, arith, sym, ap, ◌∙◌, subst}
use Rattle.std.proofs.lemmas.List.{map-id}
use Rattle.std.proofs.lemmas.Slice.Zip.{AllZip-long}
use Rattle.std.proofs.lemmas.Iterator.Adapters.{YieldsList-from_vec}
use Rattle.std.proofs.lemmas.Iterator.Consumers.{YieldsList-turn, YieldsList-end}
use Rattle.pp_channel.specs.declared.event.Event.{Event}
use Rattle.pp_line.specs.LineLog.{LogState}
use Rattle.pp_line.specs.LineState.{LineState, all_joined, lines_of, IsLogBeside, AreClosed, AreInOneOrder}
use Rattle.pp_line.specs.LineSteps.{IsLogOf}
use Rattle.pp_line.proofs.JoinedLines.{AreAbsorbed, absorbed_none, absorbed_push, absorbed_told}
use Rattle.pp_line.proofs.line.Line.close_with.Goals as goal

pub loop-value-init : goal.loop-value-init
loop-value-init g c = grind (arith, absorbed_none)

pub absorb-log-requires : goal.absorb-log-requires
absorb-log-requires g c =
    let pair : g.row.T.Denot × LineState = (c.in-Some.value, c.in-Some.other) in
    let turn = YieldsList-turn (YieldsList-from_vec c.args.others.items (search rules) (search rules)) c.loop-value.yielded c.loop-value.value-iterator c.loop-value.yielded_by _ c.next.new.self pair c.in-Some.is c.next.ensures.steps in
    ap (λ (pair : g.row.T.Denot × LineState). pair.1.table) turn.1 ∙ (c.requires.tables (length c.loop-value.yielded) pair turn.0 ∙ sym c.loop-value.invariant.table)

pub push_reserved-requires : goal.push_reserved-requires
push_reserved-requires g c =
    let turn = YieldsList-turn (YieldsList-from_vec c.args.others.items (search rules) (search rules)) c.loop-value.yielded c.loop-value.value-iterator c.loop-value.yielded_by _ c.next.new.self (c.in-Some.value, c.in-Some.other) c.in-Some.is c.next.ensures.steps in
    let logs = AllZip-long (λ pair log. IsLogBeside pair log) c.loop-value.yielded c.loop-value.logs.items c.loop-value.invariant.absorbed.logs_are in
    omega (arith, turn.0, logs, c.loop-value.logs.ok.0, c.args.others.ok.0, c.loop-value.invariant.room)

pub loop-value-preserved : goal.loop-value-preserved
loop-value-preserved g c =
    let added = c.absorb-log.ensures in record {
      table = added.table ∙ c.loop-value.invariant.table;
      room = omega (arith, c.push_reserved.ensures.capacity, c.loop-value.invariant.room);
      absorbed = subst (AreAbsorbed c.args.self (c.loop-value.yielded ++ (c.in-Some.value, c.in-Some.other) ∷ []) c.absorb-log.new.words.seat.me.0 c.absorb-log.new.seen) (sym c.push_reserved.ensures.items)
          (absorbed_push c.in-Some.value c.in-Some.other c.absorb-log.result c.loop-value.invariant.absorbed added.log_of added.log added.view added.seen);
    }

pub recorded_channels-requires : goal.recorded_channels-requires
recorded_channels-requires g c =
    let all = YieldsList-end (YieldsList-from_vec c.args.others.items (search rules) (search rules)) c.loop-value.yielded c.loop-value.value-iterator c.loop-value.yielded_by _ c.next.new.self c.in-None.is c.next.ensures.steps in
    let absorbed = subst (λ pairs. AreAbsorbed c.args.self pairs c.loop-value.words.seat.me.0 c.loop-value.seen c.loop-value.logs.items) (sym (map-id c.loop-value.yielded) ∙ all.0) c.loop-value.invariant.absorbed in
    let told = absorbed_told absorbed (subst (λ (l : LineState). IsLogOf l.view l.log.entries) c.self.view_is c.self.invariant.3) c.requires.shares c.check_shares.ensures.tells.1 in
    (search rules, (c.check_shares.ensures.tells.1.histories, rw (c.as_slice.ensures.value ∙ ap (λ (log : LogState). log.entries) c.log.view_is ∙ ap (λ (l : LineState). l.log.entries) c.self.view_is, c.as_slice-2.ensures.value) told.recorded))

pub returns : goal.returns
returns g c =
    let all = YieldsList-end (YieldsList-from_vec c.args.others.items (search rules) (search rules)) c.loop-value.yielded c.loop-value.value-iterator c.loop-value.yielded_by _ c.next.new.self c.in-None.is c.next.ensures.steps in
    let absorbed = subst (λ pairs. AreAbsorbed c.args.self pairs c.loop-value.words.seat.me.0 c.loop-value.seen c.loop-value.logs.items) (sym (map-id c.loop-value.yielded) ∙ all.0) c.loop-value.invariant.absorbed in
    let told = absorbed_told absorbed (subst (λ (l : LineState). IsLogOf l.view l.log.entries) c.self.view_is c.self.invariant.3) c.requires.shares c.check_shares.ensures.tells.1 in
    let same = c.in_ok-channels.ensures c.check_shares.ensures.tells.1.histories (rw (c.as_slice.ensures.value ∙ ap (λ (log : LogState). log.entries) c.log.view_is ∙ ap (λ (l : LineState). l.log.entries) c.self.view_is, c.as_slice-2.ensures.value) told.recorded) in record {
      channels = subst (AreClosed (all_joined c.args.self (lines_of c.args.others.items))) (sym same) told.closed;
      order = subst (λ (hs : List (List Event)). AreInOneOrder c.args.self.view.central hs (c.args.self ∷ lines_of c.args.others.items)) (sym same) told.in_order;
      logs = absorbed.logs_are;
      nothing_forgotten = absorbed.forgotten;
    }
