-- Where a processor is in the events of a channel.
use Rattle.std.proofs.Common.{◌≡◌, ℕ, zero, suc, ◌<◌, ◌≤◌, Bool, true, false, List, [], ◌∷◌, ◌++◌, length, max, drop, slice_set, get_or, Option, Some, None, refl, sym, ap, ◌∙◌, subst, inl, inr, arith}
use Rattle.std.specs.Prelude.{if◌then◌else◌}
use Rattle.std.proofs.lemmas.Bool.{cases_eq, cases_lt}
use Rattle.std.proofs.lemmas.List.{drop_more, drop_all, drop-append-le, get_or_append_left, get_or-set_other, get_or-set_same, length_push}
use Rattle.pp_channel.specs.declared.flags.Flags.{Flags}
use Rattle.pp_machine.specs.declared.trace.Trace.{Trace}
use Rattle.pp_races.specs.ByFlags.{at, number_of}
use Rattle.pp_races.specs.Cursor.{IsCursor, IsFirst, NoneFinds}
use Rattle.pp_races.specs.Watch.{first_race, from_alike}
use Rattle.pp_races.specs.declared.{by_flags.ByFlags.ByFlags, cursor.Cursor.Cursor, missed.Missed.Missed}
use Rattle.pp_races.proofs.ByFlagsLemmas.{one_set}

-- ---- tests that agree

pub from_alike_same : (a b : Flags → Bool) → ((f : Flags) → a f ≡ b f) → (missed : List Missed) → from_alike a missed ≡ from_alike b missed
from_alike_same a b same f = grind arith

pub first_race_same : (a b : Flags → Bool) → ((f : Flags) → a f ≡ b f) → (missed : List Missed) → first_race a missed ≡ first_race b missed
first_race_same a b same missed = grind arith

-- ---- searches, one event further

alike_found : (test : Flags → Bool) (e : Missed) (missed : List Missed) → test e.found ≡ true → from_alike test (e ∷ missed) ≡ e ∷ missed
alike_found test e missed is = ap (λ (t : Bool). if t then e ∷ missed else from_alike test missed) is

alike_passed : (test : Flags → Bool) (e : Missed) (missed : List Missed) → test e.found ≡ false → from_alike test (e ∷ missed) ≡ from_alike test missed
alike_passed test e missed is = ap (λ (t : Bool). if t then e ∷ missed else from_alike test missed) is

-- ---- the event at which a search ends

first_entry : List Missed → Option Trace
first_entry [] = None
first_entry (e ∷ missed) = Some e.entry

race_first : (test : Flags → Bool) (missed : List Missed) → first_race test missed ≡ first_entry (from_alike test missed)
unfolding first_entry
race_first test [] = refl
race_first test (e ∷ missed) = grind (arith, first_entry, alike_found, alike_passed, race_first test missed)

-- without the first event
tail : (test : Flags → Bool) (e : Missed) (events : List Missed) (from next place : ℕ) → from ≤ suc next → next ≤ place → IsFirst test (e ∷ events) from (suc place) → IsFirst test events next place
tail test e events from next place near further is = record {
  further = further;
  within = λ low. omega (arith, is.within (omega arith));
  none = λ k d above below h. is.none (suc k) d (omega arith) (omega arith) (omega arith);
  finds = λ d low. is.finds d (omega arith);
}

pub first_left : (test : Flags → Bool) (events : List Missed) (from place : ℕ) → IsFirst test events from place → from_alike test (drop from events) ≡ drop place events
first_left test [] from place is = ap (λ x. from_alike test x) (drop_all from [] (omega arith)) ∙ sym (drop_all place [] (omega arith))
first_left test (e ∷ events) zero zero is = alike_found test e events (is.finds e (omega arith))
first_left test (e ∷ events) zero (suc place) is =
    alike_passed test e events (is.none 0 e (omega arith) (omega arith) (omega arith)) ∙ first_left test events 0 place (tail test e events 0 0 place (omega arith) (omega arith) is)
first_left test (e ∷ events) (suc from) zero is = (let bad : suc from ≤ 0 = is.further in absurd (omega arith))
first_left test (e ∷ events) (suc from) (suc place) is = first_left test events from place (tail test e events (suc from) from place (omega arith) (omega (arith, is.further)) is)

-- ---- what a cursor finds

-- a search that begins further, where none before finds
pub begun : (events missed : List Missed) (cursor : Cursor) (is : IsCursor events missed cursor) (races : ByFlags Bool) (begin place : ℕ) → begin ≡ max (get_or cursor.searched (number_of races) 0) cursor.from
    → IsFirst (at races) events begin place → IsFirst (at races) events cursor.from place
begun events missed cursor is races begin place begin_is first = grind (arith, cases_lt)

module _ (events missed : List Missed) (cursor : Cursor) (is : IsCursor events missed cursor) where
  pub race_at : (test : Flags → Bool) (place : ℕ) (d : Missed) → IsFirst test events cursor.from place → place < length events → Some (get_or events place d).entry ≡ first_race test missed
  unfolding first_entry
  race_at test place d first low = grind (arith, race_first, first_entry, first_left, drop_more)

  pub race_none : (test : Flags → Bool) (place : ℕ) → IsFirst test events cursor.from place → length events ≤ place → None ≡ first_race test missed
  unfolding first_entry
  race_none test place first past =
      sym (race_first test missed ∙ ap (λ x. first_entry (from_alike test x)) (sym is.missed_are) ∙ ap first_entry (first_left test events cursor.from place first ∙ drop_all place events past))

  -- the search has come to a place
  pub searched_to : (races : ByFlags Bool) (place : ℕ) → number_of races < length cursor.searched → IsFirst (at races) events cursor.from place
      → IsCursor events missed (record { from = cursor.from; searched = slice_set cursor.searched (number_of races) place })
  searched_to races place few first = record {
    within = is.within;
    missed_are = is.missed_are;
    searched_within = λ set. elim (cases_eq (number_of set) (number_of races)) [
      | inl same ↦ subst (λ (k : ℕ). k ≤ length events) (sym (new set same)) (first.within is.within)
      | inr other ↦ subst (λ (k : ℕ). k ≤ length events) (sym (old set other)) (is.searched_within set)
    ];
    searched = λ set. elim (cases_eq (number_of set) (number_of races)) [
      | inl same ↦ subst (λ (k : ℕ). NoneFinds (at set) events cursor.from k) (sym (new set same)) (subst (λ (s : ByFlags Bool). NoneFinds (at s) events cursor.from place) (one_set races set (sym same)) first.none)
      | inr other ↦ subst (λ (k : ℕ). NoneFinds (at set) events cursor.from k) (sym (old set other)) (is.searched set)
    ];
  }
    where
      table : List ℕ
      table = slice_set cursor.searched (number_of races) place

      new : (set : ByFlags Bool) → number_of set ≡ number_of races → get_or table (number_of set) 0 ≡ place
      new set same = ap (λ k. get_or table k 0) same ∙ get_or-set_same cursor.searched (number_of races) place 0 few

      old : (set : ByFlags Bool) → (number_of set ≡ number_of races → ⊥) → get_or table (number_of set) 0 ≡ get_or cursor.searched (number_of set) 0
      old set other = get_or-set_other cursor.searched (number_of races) (number_of set) place 0 other

  -- it goes on to a further place
  moved : (place : ℕ) → cursor.from ≤ place → place ≤ length events → IsCursor events (drop place events) (record { from = place; searched = cursor.searched })
  moved place further within = grind arith

  pub passed : (test : Flags → Bool) (place : ℕ) → IsFirst test events cursor.from place → IsCursor events (from_alike test missed) (record { from = place; searched = cursor.searched })
  passed test place first = grind (arith, first_left, moved)

  -- one more event
  pub one_more : (event : Missed) → IsCursor (events ++ event ∷ []) (missed ++ event ∷ []) cursor
  one_more event = grind (arith, drop-append-le, get_or_append_left, length_push)
