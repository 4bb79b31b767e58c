-- The events missed are the last of a history.
use Rattle.std.proofs.Common.{◌≡◌, ℕ, suc, ◌+◌, ◌<◌, Bool, true, false, List, [], ◌∷◌, ◌++◌, length, get_or, None, refl, ap, ◌∙◌, arith}
use Rattle.std.proofs.lemmas.Bool.{cases_lt}
use Rattle.std.proofs.lemmas.List.{length_push, take-append-le, take_all, get_or_append_left, get_or_push}
use Rattle.pp_channel.specs.Answer.{flags_of}
use Rattle.pp_channel.specs.declared.{event.Event.Event, flags.Flags.Flags}
use Rattle.pp_machine.specs.declared.trace.Trace.{Trace}
use Rattle.pp_races.specs.Soundness.{AreLastOf}
use Rattle.pp_races.specs.Watch.{Missed, first_race, from_alike, missed_event}

pub none_missed : (h : List Event) → AreLastOf h []
none_missed h = record { few = omega arith; each = λ p k d low same. absurd (omega arith) }

-- one more, by an event of another
pub one_missed : (h : List Event) (missed : List Missed) (event : Event) (entry : Trace) → AreLastOf h missed → AreLastOf (h ++ event ∷ []) (missed ++ missed_event (flags_of h) entry ∷ [])
one_missed h missed event entry are = grind (arith, length_push, take-append-le, cases_lt, get_or_append_left, get_or_push, take_all)

-- ---- none of the events missed races

pub none_races : (test : Flags → Bool) (missed : List Missed) → first_race test missed ≡ None → (k : ℕ) (d : Missed) → k < length missed → test (get_or missed k d).found ≡ false
none_races test [] is k d low = absurd (omega arith)
none_races test (e ∷ missed) is k d low = at_head (λ rest j below. none_races test missed rest j d below) (test e.found) refl k low
  where
    at_head : (first_race test missed ≡ None → (j : ℕ) → j < length missed → test (get_or missed j d).found ≡ false) → (b : Bool) → test e.found ≡ b → (j : ℕ) → j < length (e ∷ missed) → test (get_or (e ∷ missed) j d).found ≡ false
    at_head others true holds j h = grind arith
    at_head others false fails b h = grind arith

-- ---- those that are left after a look are the last of those before

pub record AreLeft (test : Flags → Bool) (before after : List Missed) : Type 0 where
  pub dropped : ℕ
  pub sum : dropped + length after ≡ length before
  pub not_alike : (k : ℕ) (d : Missed) → k < dropped → test (get_or before k d).found ≡ false
  pub same : (k : ℕ) (d : Missed) → get_or after k d ≡ get_or before (dropped + k) d

left_skips : (test : Flags → Bool) (e : Missed) (missed after : List Missed) → test e.found ≡ false → AreLeft test missed after → AreLeft test (e ∷ missed) after
left_skips test e missed after fails rest = record {
  dropped = suc rest.dropped;
  sum = omega (arith, rest.sum);
  not_alike = not_alike;
  same = λ k d. (let is : suc (rest.dropped + k) ≡ suc rest.dropped + k = omega arith in rest.same k d ∙ ap (λ j. get_or (e ∷ missed) j d) is);
}
  where
    not_alike : (k : ℕ) (d : Missed) → k < suc rest.dropped → test (get_or (e ∷ missed) k d).found ≡ false
    not_alike k d low = grind arith

left_all : (test : Flags → Bool) (missed : List Missed) → AreLeft test missed missed
left_all test missed = record { dropped = 0; sum = omega arith; not_alike = λ k d low. absurd (omega arith); same = λ k d. (let is : k ≡ 0 + k = omega arith in ap (λ j. get_or missed j d) is) }

pub left_by : (test : Flags → Bool) (missed : List Missed) → AreLeft test missed (from_alike test missed)
left_by test [] = left_all test []
left_by test (e ∷ missed) = grind (arith, left_all, left_skips, left_by test missed)

pub left_missed : (test : Flags → Bool) (h : List Event) (missed after : List Missed) → AreLeft test missed after → AreLastOf h missed → AreLastOf h after
left_missed test h missed after left are = grind arith
