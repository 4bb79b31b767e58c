-- The circle: its histories are lawful, its logs merge to them, and no order has both logs in it.
use Rattle.std.proofs.Common.{◌≡◌, ◌≢◌, ℕ, zero, suc, ◌<◌, ◌≤◌, List, [], ◌∷◌, ◌++◌, length, get_or, refl, sym, inl, inr, arith}
use Rattle.std.specs.Prelude.{None, Some, All}
use Rattle.std.proofs.lemmas.Bool.{cases_eq, ne_eqb}
use Rattle.std.proofs.lemmas.List.{length-append}
use Rattle.std.proofs.lemmas.List.Elements.{All-nil}
use Rattle.pp_numbers.specs.Subsequence.{IsSubsequence}
use Rattle.pp_numbers.proofs.Subsequences.{stands_after, stands_through, stands_whole}
use Rattle.pp_numbers.specs.GappedNumbers.{index_of, is_number}
use Rattle.pp_numbers.specs.ChannelNo.{channel_index, names_channel, channel_places}
use Rattle.pp_channel.specs.History.{AreHistories, HasTwelveBitWord, HasTwelveBitWords, IsLawful, history_on}
use Rattle.pp_line.specs.LineLog.{IsFollowedBy, IsMonotone, event_entry}
use Rattle.pp_line.specs.Merge.{IsTrueOf, Merges, no_opening, times_logged}
use Rattle.pp_line.proofs.MergeLemmas.{TellsOnce, merges_by, once_below, once_past}
use Rattle.pp_line.proofs.ListFacts.{same_everywhere}
use Rattle.pp_line.specs.Order.{IsLegal, ComesAfter, IsTotalOrderOf, made_on}
use Rattle.pp_report.specs.Types.{Did, Entry, Event, Saw, Seen}
use Rattle.pp_laws.specs.Circle.{histories_of_circle, one_log, other_log}

-- the histories
word_passes : (w : ℕ) → IsLawful (Event.Activate ∷ Event.Put w ∷ Event.Take w ∷ [])
word_passes w = (
  record { first_stretch = []; whole_sessions = []; open_session = Some (record { passed = w ∷ []; lone = None }) },
  refl,
)

nothing : IsLawful []
nothing = (record { first_stretch = []; whole_sessions = []; open_session = None }, refl)

small_word : (w : ℕ) → w < 0o10000 → HasTwelveBitWords (Event.Activate ∷ Event.Put w ∷ Event.Take w ∷ [])
small_word w small = grind arith

abbrev first_history : List Event
first_history = Event.Activate ∷ Event.Put 5 ∷ Event.Take 5 ∷ []

abbrev second_history : List Event
second_history = Event.Activate ∷ Event.Put 7 ∷ Event.Take 7 ∷ []

each : (P : List Event → Type 0) → P [] → P first_history → P second_history → All P histories_of_circle
each P none first second = grind (arith, first_history, second_history)

pub are_histories : AreHistories histories_of_circle
are_histories = record {
  each_channel = refl;
  lawful = each IsLawful nothing (word_passes 5) (word_passes 7);
  twelve_bits = each HasTwelveBitWords (All-nil HasTwelveBitWord) (small_word 5 (omega arith)) (small_word 7 (omega arith));
}

-- the numbers along a log
three_entries : (x y z : Entry) → IsFollowedBy x y → IsFollowedBy x z → IsFollowedBy y z → IsMonotone (x ∷ y ∷ z ∷ [])
three_entries x y z xy xz yz = grind arith

pub are_monotone : IsMonotone one_log × IsMonotone other_log
are_monotone = grind (arith, three_entries)

-- each event is logged once
abbrev both_logs : List Entry
both_logs = one_log ++ other_log

told_first : (number : ℕ) → times_logged 1 number both_logs ≡ once_below number 3
told_first zero = refl
told_first (suc zero) = refl
told_first (suc (suc zero)) = refl
told_first (suc (suc (suc n))) = grind (arith, ne_eqb, once_past)

told_second : (number : ℕ) → times_logged 2 number both_logs ≡ once_below number 3
told_second zero = refl
told_second (suc zero) = refl
told_second (suc (suc zero)) = refl
told_second (suc (suc (suc n))) = grind (arith, ne_eqb, once_past)

never_elsewhere : (c number : ℕ) → c ≢ 1 → c ≢ 2 → times_logged c number both_logs ≡ 0
never_elsewhere c number first second = rw (ne_eqb 1 c (λ is. first (sym is)), ne_eqb 2 c (λ is. second (sym is))) refl

-- the history of each channel
on_first : history_on 1 histories_of_circle ≡ first_history
unfolding channel_index index_of
on_first = refl

on_second : history_on 2 histories_of_circle ≡ second_history
unfolding channel_index index_of
on_second = refl

at_place : (place : ℕ) → place ≢ 1 → place ≢ 2 → get_or histories_of_circle place [] ≡ []
at_place zero first second = refl
at_place (suc zero) first second = absurd (first refl)
at_place (suc (suc zero)) first second = absurd (second refl)
at_place (suc (suc (suc k))) first second = same_everywhere 21 k []

first_place : (c : ℕ) → channel_index c ≡ 1 → c ≡ 1
unfolding channel_index names_channel index_of is_number
first_place c is = channel_places.one_place 1 c refl is

second_place : (c : ℕ) → channel_index c ≡ 2 → c ≡ 2
unfolding channel_index names_channel index_of is_number
second_place c is = channel_places.one_place 2 c refl is

on_others : (c : ℕ) → c ≢ 1 → c ≢ 2 → history_on c histories_of_circle ≡ []
on_others c first second = at_place (channel_index c) (λ is. first (first_place c is)) (λ is. second (second_place c is))

tells_both : TellsOnce histories_of_circle both_logs
tells_both c number = grind (arith, both_logs, once_below, cases_eq, told_first, on_first, told_second, on_second, on_others, never_elsewhere, once_past)

entries_true : (x y z : Entry) (more : List Entry) → IsTrueOf histories_of_circle x → IsTrueOf histories_of_circle y → IsTrueOf histories_of_circle z → All (IsTrueOf histories_of_circle) more
    → All (IsTrueOf histories_of_circle) (x ∷ y ∷ z ∷ more)
entries_true x y z more first second third rest = grind arith

all_true : All (IsTrueOf histories_of_circle) both_logs
unfolding channel_index index_of
all_true = grind (arith, entries_true)

pub are_merged : Merges no_opening histories_of_circle (one_log ++ other_log)
are_merged = merges_by histories_of_circle both_logs tells_both all_true

-- what comes later in a log comes later in an order
stands_tail : {X : Type 0} (x : X) (xs ys : List X) → IsSubsequence (x ∷ xs) ys → IsSubsequence xs ys
stands_tail x xs ys h = stands_through xs (x ∷ xs) ys (stands_after xs x xs (stands_whole xs)) h

counted : (before : List Event) (number : ℕ) (what : Seen) → ComesAfter before number what → number ≡ length before
counted before number (Did e) comes = comes
counted before number (Saw f) comes = comes.0

-- an entry in its place has the number of the events before it
first_counted : (before : ℕ → List Event) (x entry : Entry) (os : List Entry) → x ≡ entry → IsLegal before (entry ∷ os) → x.number ≡ length (before x.channel)
first_counted before x entry os is places = grind (arith, counted)

-- one that comes later has no fewer
later_counted : (before : ℕ → List Event) (x : Entry) (xs os : List Entry) → IsLegal before os → IsSubsequence (x ∷ xs) os → length (before x.channel) ≤ x.number
later_counted before x xs [] places h = absurd h
later_counted before x xs (entry ∷ os) places h =
    elim h [
      | inl p ↦ let here = first_counted before x entry os p.0 places in omega (arith, here)
      | inr q ↦
          let more = length-append (before x.channel) (made_on x.channel (entry ∷ [])) in
          let later = later_counted (λ c. before c ++ made_on c (entry ∷ [])) x xs os places.1 q in omega (arith, more, later)
    ]

-- Neither take can be the first of the entries that are left, since its word was not put yet.
no_circle : (before : ℕ → List Event) (os : List Entry) → IsLegal before os → length (before 1) ≤ 1 → length (before 2) ≤ 1
    → IsSubsequence (event_entry 1 2 (Event.Take 5) ∷ event_entry 2 1 (Event.Put 7) ∷ []) os → IsSubsequence (event_entry 2 2 (Event.Take 7) ∷ event_entry 1 1 (Event.Put 5) ∷ []) os → ⊥
no_circle before [] places first second one other = one
no_circle before (entry ∷ os) places first second one other =
    let take_first = event_entry 1 2 (Event.Take 5) in
    let take_second = event_entry 2 2 (Event.Take 7) in
    let put_first = event_entry 1 1 (Event.Put 5) in
    let put_second = event_entry 2 1 (Event.Put 7) in
    let Next : ℕ → List Event = λ c. before c ++ made_on c (entry ∷ []) in
    elim one [
      | inl p ↦ let at = first_counted before take_first entry os p.0 places in omega (arith, at, first)
      | inr q ↦ elim other [
        | inl p ↦ let at = first_counted before take_second entry os p.0 places in omega (arith, at, second)
        | inr r ↦
            no_circle Next os places.1
            (later_counted Next put_first [] os places.1 (stands_tail take_second (put_first ∷ []) os r))
            (later_counted Next put_second [] os places.1 (stands_tail take_first (put_second ∷ []) os q)) q r
      ]
    ]

pub no_order : (order : List Entry) → IsTotalOrderOf no_opening histories_of_circle order → IsSubsequence one_log order → IsSubsequence other_log order → ⊥
no_order order is one other =
    no_circle no_opening order is.legal (omega arith) (omega arith)
    (stands_tail (event_entry 1 0 Event.Activate) (event_entry 1 2 (Event.Take 5) ∷ event_entry 2 1 (Event.Put 7) ∷ []) order one)
    (stands_tail (event_entry 2 0 Event.Activate) (event_entry 2 2 (Event.Take 7) ∷ event_entry 1 1 (Event.Put 5) ∷ []) order other)
