use Rattle.std.proofs.Common.{◌≡◌, [], ◌∷◌, ◌++◌, ap, ◌∙◌, arith}
use Rattle.std.proofs.lemmas.List.{with_items_is}
use Rattle.pp_channel.specs.Answer.{flags_of}
use Rattle.pp_machine.specs.MachineState.{history_of}
use Rattle.pp_races.specs.Cursor.{IsCursor}
use Rattle.pp_races.specs.Tables.{events_of, no_cursor}
use Rattle.pp_races.specs.Watch.{missed_event}
use Rattle.pp_races.proofs.CursorLemmas.{one_more}
use Rattle.pp_races.proofs.EntryLemmas.{entry_at, events_at}
use Rattle.pp_races.proofs.EventLemmas.{event_kept}
use Rattle.pp_races.proofs.watch_tables.WatchTables.take_event.Goals as goal

pub returns : goal.returns
returns g c = λ size w are.
    let m = c.args.asked.now.machine.now in
    let n = c.args.asked.now.n in
    let k = c.args.asked.now.c in
    let tables = c.first_race-race.new.self in
    let kept = c.first_race-race.ensures.kept size w are in
    let place = c.entry_place.ensures in
    let made = c.entry-made.result in
    let events = events_of tables.events.items k in
    let missed = missed_event (flags_of (history_of k m)) made in
    let list : c.push.new.self ≡ events ++ missed ∷ [] =
    c.in_ok-push.ensures ∙ ap (λ x. x ++ missed_event c.flags.result made ∷ []) (events_at tables.events.items k _ _ c.index.ensures.place (omega (arith, c.index.ensures.below, tables.channels)) c.index_mut-events.ensures.value)
    ∙ ap (λ f. events ++ missed_event f made ∷ []) c.flags.ensures in
    let here : IsCursor (events ++ missed ∷ []) (w.missed n k ++ missed ∷ []) c.index_mut.result.now =
    rw (entry_at tables.cursors.items n k _ _ no_cursor place.place (omega (arith, place.within, tables.all_cursors)) c.index_mut.ensures.value) (one_more events (w.missed n k) _ (kept.cursors_are n k place.processor place.channel) missed) in
    let passed : IsCursor (events ++ missed ∷ []) [] c.pass_all.new.self = (rw (c.as_slice.ensures ∙ list) at c.pass_all.ensures) _ here in
    rw (with_items_is tables.looks c.close_all.new.looks (c.close_all.auto.looks ∙ c.deref_mut.ensures.len), list, place.place, c.index.ensures.place)
    (event_kept m w n k c.args.asked.now.op c.args.event.now place.processor place.channel size tables.events.items tables.cursors.items tables.looks.items c.close_all.new.looks tables.uses.items tables.found.items c.push_before.new.findings.items c.close_all.new.findings.items
    c.pass_all.new.self c.goes_on_at-goes_on.result c.first_race-race.result c.step.result made (omega (arith, c.index.ensures.place, c.index.ensures.below, tables.channels)) (omega (arith, place.place, place.within, tables.all_cursors))
    c.goes_on_at-goes_on.ensures c.step.ensures (c.first_race-race.ensures.race size w are) c.in_ok-push_before.ensures c.entry-made.ensures
    (rw (c.deref_mut.ensures.value, c.flags_after.ensures) at c.in_ok-close_all.ensures.looks) (rw (c.deref_mut.ensures.value, c.flags_after.ensures) at c.in_ok-close_all.ensures.findings) passed kept)
