use Rattle.std.proofs.Common.{arith}
use Rattle.pp_races.proofs.BeginLemmas.{begins_cursors, no_look_yet}
use Rattle.pp_races.proofs.watch_tables.WatchTables.of.Goals as goal

pub returns : goal.returns
returns g c = record {
  cursors_are = begins_cursors _ _ c.first.result c.in_ok-no_events.ensures.empty c.first.ensures (c.in_ok-vec.ensures.items_if_clones_equal (λ y is. is));
  looks_are = no_look_yet _ c.all.result c.all.ensures (c.in_ok-vec-2.ensures.items_if_clones_equal (λ y is. grind (arith, is, c.all.ensures)));
  words_are = c.in_ok-first_uses.ensures.words;
  uses_are = c.in_ok-first_uses.ensures.unused;
  found_are = c.in_ok-with_capacity.ensures.items;
}
