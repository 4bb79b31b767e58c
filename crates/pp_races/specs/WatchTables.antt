-- The tables by which a run is watched are those of a watch. (Private contracts alone cite this.)
use Rattle.std.specs.Prelude.{◌≡◌, ℕ, List, ◌++◌, length}
use Rattle.pp_races.specs.Tables.{AreCursors, AreLooks, AreUses, Looks}
use Rattle.pp_races.specs.Watch.{Watch}
use Rattle.pp_races.specs.declared.{cursor.Cursor.Cursor, finding.Finding.Finding, missed.Missed.Missed, watch_tables.WatchTables.WatchTables, word_use.WordUse.WordUse}

-- of a machine with so many central words
pub record AreKept (events : List (List Missed)) (cursors : List Cursor) (looks : List Looks)
    (uses : List WordUse) (found : List Finding) (words : ℕ) (w : Watch) : Type 0 where
  pub cursors_are : AreCursors events w cursors
  pub looks_are : AreLooks w looks
  pub words_are : length uses ≡ words
  pub uses_are : AreUses w uses
  pub found_are : found ≡ w.findings

abbrev pub AreTables : {A : Type 0} → WatchTables A → ℕ → Watch → Type 0
AreTables tables words w = AreKept tables.events.items tables.cursors.items tables.looks.items
    tables.uses.items tables.found.items words w

-- a watch with more findings
abbrev pub finds : List Finding → Watch → Watch
finds more w = record w { findings = w.findings ++ more }
