-- The tables before the first step.
use Rattle.std.proofs.Common.{◌≡◌, List, [], None, sym, ap, ◌∙◌, subst, refl}
use Rattle.std.specs.Prelude.{replicate}
use Rattle.std.proofs.lemmas.List.{get_or-replicate}
use Rattle.pp_races.specs.ByFlags.{all, at}
use Rattle.pp_races.specs.Cursor.{IsCursor}
use Rattle.pp_races.specs.Tables.{AreCursors, AreEmpty, AreLooks, Looks, cursor_of, entry_count, entry_place, looks_of, no_cursor, no_looks}
use Rattle.pp_races.specs.Watch.{unwatched}
use Rattle.pp_races.specs.declared.{cursor.Cursor.Cursor, missed.Missed.Missed}
use Rattle.pp_races.proofs.EntryLemmas.{entry_within}
use Rattle.pp_races.proofs.ByFlagsLemmas.{each_flags}

pub begins_cursors : (events : List (List Missed)) (table : List Cursor) (first : Cursor) → AreEmpty events → IsCursor [] [] first → table ≡ replicate entry_count first → AreCursors events unwatched table
begins_cursors events table first empty is all q c q_named c_named =
    let here : cursor_of table q c ≡ first = ap (λ t. cursor_of t q c) all ∙ get_or-replicate entry_count (entry_place q c) first no_cursor (entry_within q c q_named c_named) in
    subst (λ (x : List Missed). IsCursor x [] (cursor_of table q c)) (sym (empty c)) (subst (λ (x : Cursor). IsCursor [] [] x) (sym here) is)

pub no_look_yet : (table : List Looks) (look : Looks) → look ≡ no_looks → table ≡ replicate entry_count look → AreLooks unwatched table
no_look_yet table look is all q c q_named c_named f =
    ap (λ t. at (looks_of t q c) f) all ∙ ap (λ l. at l f) (get_or-replicate entry_count (entry_place q c) look no_looks (entry_within q c q_named c_named) ∙ is)
    ∙ each_flags (λ g. at no_looks g ≡ None) refl refl refl refl f
