use Rattle.std.proofs.Common.{◌≡◌, None, Some, ap, ◌∙◌, arith, rules}
use Rattle.std.specs.Option.{option_or}
use Rattle.std.specs.Prelude.{if◌then◌else◌}
use Rattle.pp_channel.specs.declared.flags.Flags.{Flags}
use Rattle.pp_races.specs.ByFlags.{at}
use Rattle.pp_races.specs.Cursor.{IsCursor}
use Rattle.pp_races.specs.OtherFlags.{is_alike, is_race}
use Rattle.pp_races.specs.Tables.{Looks, events_of, no_cursor, no_looks}
use Rattle.pp_races.proofs.EntryLemmas.{entry_at, events_at}
use Rattle.pp_races.proofs.LookLemmas.{look_kept}
use Rattle.pp_races.proofs.watch_tables.WatchTables.take_look.Goals as goal

pub returns : goal.returns
returns g c = λ size w are.
    let n = c.args.asked.now.n in
    let k = c.args.asked.now.c in
    let tables = c.first_race-race.new.self in
    let kept = c.first_race-race.ensures.kept size w are in
    let place = c.entry_place-entry.ensures in
    let alike : (f : Flags) → at c.of-alike.result f ≡ is_alike (at c.found-found.result f) = λ f. (let post = c.of-alike.ensures f in search (rules, post)) in
    let races : (f : Flags) → at c.of-races.result f ≡ is_race (at c.found-found.result f) = λ f. (let post = c.of-races.ensures f in search (rules, post)) in
    let events : c.as_slice-events.result.now ≡ events_of tables.events.items k = c.as_slice-events.ensures ∙ events_at tables.events.items k _ _ c.index.ensures.place (omega (arith, c.index.ensures.below, tables.channels)) c.index-2.ensures in
    let here : IsCursor c.as_slice-events.result.now (w.missed n k) c.index_mut.result.now =
    rw (events, entry_at tables.cursors.items n k _ _ no_cursor place.place (omega (arith, place.within, tables.all_cursors)) c.index_mut.ensures.value) (kept.cursors_are n k place.processor place.channel) in
    let looks = entry_at tables.looks.items n k _ _ no_looks place.place (omega (arith, place.within, tables.all_looks)) c.index-3.ensures in
    rw place.place (look_kept c.args.asked.now.machine.now w n k c.args.asked.now.op size tables.events.items tables.cursors.items tables.looks.items tables.uses.items tables.found.items _ c.pass.new.self c.with_look.result c.of-alike.result c.of-races.result
    c.first_race-race.result c.step-step.result place.processor place.channel (omega (arith, place.place, place.within, tables.all_cursors)) (omega (arith, place.place, place.within, tables.all_looks))
    (λ f. alike f ∙ ap is_alike (c.found-found.ensures f)) (λ f. races f ∙ ap is_race (c.found-found.ensures f))
    c.step-step.ensures (c.first_race-race.ensures.race size w are) c.in_ok-push_before.ensures (rw events at (c.pass.ensures _ here))
    (λ f. c.with_look.ensures f ∙ ap (λ (l : Looks). option_or (at l f) (if at c.of-alike.result f then None else Some c.step-step.result)) looks) kept)
