use Rattle.std.proofs.Common.{◌≡◌, ◌∙◌, arith}
use Rattle.pp_races.specs.Cursor.{IsCursor}
use Rattle.pp_races.specs.Tables.{AreCursors, events_of, no_cursor}
use Rattle.pp_races.specs.Watch.{Watch}
use Rattle.pp_races.proofs.EntryLemmas.{cursors_set, entry_at, events_at}
use Rattle.pp_races.proofs.watch_tables.WatchTables.first_race.Goals as goal
use Rattle.pp_races.proofs.watch_tables.WatchTables.first_race.Goals.{After-first_race}

events : (g : _) (c : After-first_race g) → c.as_slice-events.result.now ≡ events_of c.args.self.now.events.items c.args.asked.now.c
events g c = c.as_slice-events.ensures ∙ events_at c.args.self.now.events.items c.args.asked.now.c _ _ c.index.ensures.place (omega (arith, c.index.ensures.below, c.args.self.now.channels)) c.index-2.ensures

here : (g : _) (c : After-first_race g) (w : Watch) → AreCursors c.args.self.now.events.items w c.args.self.now.cursors.items → IsCursor c.as_slice-events.result.now (w.missed c.args.asked.now.n c.args.asked.now.c) c.index_mut.result.now
here g c w are =
    rw (events g c, entry_at c.args.self.now.cursors.items c.args.asked.now.n c.args.asked.now.c _ _ no_cursor c.entry_place.ensures.place (omega (arith, c.entry_place.ensures.within, c.args.self.now.all_cursors)) c.index_mut.ensures.value)
    (are c.args.asked.now.n c.args.asked.now.c c.entry_place.ensures.processor c.entry_place.ensures.channel)

pub returns-clause-kept : goal.returns-clause-kept
returns-clause-kept g c = λ size w are.
    let before = (goal.at.returns-clause-kept g c).After-first_race in
    record {
      cursors_are = rw c.entry_place.ensures.place
          (cursors_set c.args.self.now.events.items w c.args.self.now.cursors.items c.args.asked.now.n c.args.asked.now.c c.first_race.new.self c.entry_place.ensures.processor c.entry_place.ensures.channel (omega (arith, c.entry_place.ensures, c.args.self.now.all_cursors))
          (rw (events g before) at (c.first_race.ensures.kept _ (here g before w are.cursors_are))) (λ q e q_named e_named apart. are.cursors_are q e q_named e_named));
      looks_are = are.looks_are;
      words_are = are.words_are;
      uses_are = are.uses_are;
      found_are = are.found_are;
    }

pub returns-clause-race : goal.returns-clause-race
returns-clause-race g c = λ size w are. c.first_race.ensures.race _ (here g (goal.at.returns-clause-race g c).After-first_race w are.cursors_are)
