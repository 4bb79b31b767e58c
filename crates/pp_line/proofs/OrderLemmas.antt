-- Orders and program orders that grow, a step at a time.
use Rattle.std.proofs.Common.{◌≡◌, ◌≢◌, ℕ, ◌<◌, ◌≤◌, ltb, Bool, not, List, [], ◌∷◌, ◌++◌, length, take, drop, refl, sym, ap, ◌∙◌, subst, inl, inr, ⊎_elim, arith, append_assoc}
use Rattle.std.specs.Prelude.{◌⊎◌, Option, None}
use Rattle.std.specs.List.{All, cons_option, filter, flat_map}
use Rattle.std.proofs.lemmas.Bool.{cases_eq, cases_lt, ne_eqb, lt-ltb, le-ltb}
use Rattle.std.proofs.lemmas.List.{append-nil, length-append, drop_all, drop-append-le, take_at, take-append-le, take-append-drop}
use Rattle.std.proofs.lemmas.List.Concat.{flat_map-append}
use Rattle.std.proofs.lemmas.List.Elements.{All-weaker, All-map, filter_map-append}
use Rattle.pp_numbers.specs.Subsequence.{IsSubsequence}
use Rattle.pp_numbers.proofs.Subsequences.{stands_after, stands_passed, stands_more, stands_push, stands_append, stands_through, stands_whole}
use Rattle.pp_line.specs.Types.{Access, Entry, Event, OnChannel, Seen}
use Rattle.pp_channel.specs.Law.{IsPrefix}
use Rattle.pp_channel.specs.History.{history_on}
use Rattle.pp_line.specs.Merge.{no_opening}
use Rattle.pp_line.specs.Order.{made_at, made_on, ComesAfter, IsLegal, IsTotalOrderOf, entry_of, entries_among, extended, ExtendsEach, IsDrawnFrom}

pub made_more : (c : ℕ) (xs ys : List Entry) → made_on c (xs ++ ys) ≡ made_on c xs ++ made_on c ys
made_more c xs ys = filter_map-append (λ entry. made_at c entry.channel entry.what) xs ys

-- the entries of accesses that go on
pub entries_more : (xs ys : List Access) → entries_among (xs ++ ys) ≡ entries_among xs ++ entries_among ys
entries_more xs ys = filter_map-append entry_of xs ys

-- an entry in its place, behind those that are
pub legal_push : (before : ℕ → List Event) (entries : List Entry) (entry : Entry) → IsLegal before entries
    → ComesAfter (before entry.channel ++ made_on entry.channel entries) entry.number entry.what → IsLegal before (entries ++ entry ∷ [])
legal_push before [] entry all here = (subst (λ (h : List Event). ComesAfter h entry.number entry.what) (append-nil (before entry.channel)) here, tt)
legal_push before (x ∷ entries) entry all here = grind (arith, made_more, append_assoc, legal_push (λ d. before d ++ made_on d (x ∷ [])) entries entry all.1)

-- the next entry of a channel, and what it makes
pub order_more : (before after : List (List Event)) (order : List Access) (entry : Entry) → ComesAfter (history_on entry.channel before) entry.number entry.what → ((c : ℕ) → history_on c after ≡ history_on c before ++ made_on c (entry ∷ []))
    → IsTotalOrderOf no_opening before (entries_among order) → IsTotalOrderOf no_opening after (entries_among (order ++ OnChannel entry ∷ []))
order_more before after order entry comes grows is = grind (arith, entries_more, made_more, legal_push)

-- what is no access to a channel
pub order_beside : (histories : List (List Event)) (order : List Access) (access : Access) → entry_of access ≡ None → IsTotalOrderOf no_opening histories (entries_among order) → IsTotalOrderOf no_opening histories (entries_among (order ++ access ∷ []))
order_beside histories order access none is = grind (arith, entries_more, append-nil)

-- program orders are extended by a longer order, and grow with it
pub extends_more : (order more : List Access) (program_orders : List (List Access)) → ExtendsEach order program_orders → ExtendsEach (order ++ more) program_orders
extends_more order more program_orders all = All-weaker (λ (t : List Access). IsSubsequence t order) (λ (t : List Access). IsSubsequence t (order ++ more)) (λ t h. stands_more t order more h) program_orders all

pub extends_push : (order : List Access) (access : Access) (program_orders : List (List Access)) → ExtendsEach order program_orders → ExtendsEach (order ++ access ∷ []) (extended program_orders (access ∷ []))
extends_push order access program_orders all =
    All-map (λ (t : List Access). IsSubsequence t (order ++ access ∷ [])) (λ t. t ++ access ∷ []) program_orders
    (All-weaker (λ (t : List Access). IsSubsequence t order) (λ (t : List Access). IsSubsequence (t ++ access ∷ []) (order ++ access ∷ [])) (λ t h. stands_push t order access h) program_orders all)

pub extended_twice : (program_orders : List (List Access)) (xs ys : List Access) → extended (extended program_orders xs) ys ≡ extended program_orders (xs ++ ys)
extended_twice [] xs ys = refl
extended_twice (t ∷ program_orders) xs ys = λ j. append_assoc t xs ys j ∷ extended_twice program_orders xs ys j

pub length-extended : (program_orders : List (List Access)) (xs : List Access) → length (extended program_orders xs) ≡ length program_orders
length-extended [] xs = refl
length-extended (t ∷ program_orders) xs = omega (arith, length-extended program_orders xs)

abbrev all_of : List (List Access) → List Entry
all_of program_orders = flat_map entries_among program_orders

-- what is drawn from program orders is drawn from them when they have grown
pub drawn_extended : (program_orders : List (List Access)) (log : List Entry) (more : List Access) → IsDrawnFrom program_orders log → IsDrawnFrom (extended program_orders more) log
drawn_extended program_orders log more h = stands_through log (all_of program_orders) (all_of (extended program_orders more)) h (longer program_orders more)
  where
    longer : (program_orders : List (List Access)) (more : List Access) → IsSubsequence (all_of program_orders) (all_of (extended program_orders more))
    longer [] more = tt
    longer (t ∷ program_orders) more = grind (arith, stands_append, longer program_orders more, entries_more, stands_more, stands_whole)

-- and so with the last entry that came
pub stands_with_last : (program_orders : List (List Access)) (log : List Entry) (entry : Entry) → 0 < length program_orders → IsDrawnFrom program_orders log → IsDrawnFrom (extended program_orders (OnChannel entry ∷ [])) (log ++ entry ∷ [])
stands_with_last program_orders log entry some h =
    stands_through (log ++ entry ∷ []) (all_of program_orders ++ entry ∷ []) (all_of (extended program_orders (OnChannel entry ∷ []))) (stands_push log (all_of program_orders) entry h) (last program_orders entry some)
  where
    last : (program_orders : List (List Access)) (entry : Entry) → 0 < length program_orders → IsSubsequence (all_of program_orders ++ entry ∷ []) (all_of (extended program_orders (OnChannel entry ∷ [])))
    last [] entry some = absurd (omega arith)
    last (t ∷ []) entry some = grind (arith, append-nil, entries_more, stands_whole)
    last (t ∷ u ∷ program_orders) entry some = grind (arith, append_assoc, stands_append, last (u ∷ program_orders) entry (omega arith), entries_more, stands_more, stands_whole)

-- two logs, end to end
pub stands_joined : (program_orders others : List (List Access)) (log other : List Entry) → IsDrawnFrom program_orders log → IsDrawnFrom others other → IsDrawnFrom (program_orders ++ others) (log ++ other)
stands_joined program_orders others log other h k = subst (λ (l : List Entry). IsSubsequence (log ++ other) l) (sym (flat_map-append entries_among program_orders others)) (stands_append log (all_of program_orders) other (all_of others) h k)

-- the entries of what stands in a list stand among those of the list
pub entries_stand : (xs ys : List Access) → IsSubsequence xs ys → IsSubsequence (entries_among xs) (entries_among ys)
entries_stand [] ys h = tt
entries_stand (x ∷ xs) [] h = absurd h
entries_stand (x ∷ xs) (y ∷ ys) (inl p) = grind (arith, entries_stand xs ys p.1)
entries_stand (x ∷ xs) (y ∷ ys) (inr q) = grind (arith, stands_after, entries_stand (x ∷ xs) ys q)

none_on : (c : ℕ) (entry : Entry) → entry.channel ≢ c → made_on c (entry ∷ []) ≡ []
none_on c entry other = grind (arith, ne_eqb)

one_at_most : (o : Option Event) → length (cons_option o []) ≤ 1
one_at_most o = grind arith

number_after_events : (before : List Event) (number : ℕ) (what : Seen) → ComesAfter before number what → number ≡ length before
number_after_events before number what comes = grind arith

-- The entries of an order that are not older than the opening histories, where the histories begin with these.
module _ (opening history : ℕ → List Event) (begins : (c : ℕ) → IsPrefix (opening c) (history c)) where
  abbrev pub is_later : Entry → Bool
  is_later entry = not (ltb entry.number (length (opening entry.channel)))

  -- what has happened then on a channel, of what has happened in all
  abbrev Leaves : (ℕ → List Event) → (ℕ → List Event) → Type 0
  Leaves before now = (c : ℕ) → now c ≡ opening c ++ drop (length (opening c)) (before c)

  opened : (c : ℕ) (before rest : List Event) → before ++ rest ≡ history c → length (opening c) ≤ length before → opening c ++ drop (length (opening c)) before ≡ before
  opened c before rest is long =
      let n = length (opening c) in
      let front : take n before ≡ opening c = sym (take-append-le n before rest long) ∙ (ap (take n) (is ∙ sym (begins c).1) ∙ take_at (opening c) (begins c).0 n refl) in
      ap (λ l. l ++ drop n before) (sym front) ∙ take-append-drop n before

  leaves_more : (before now : ℕ → List Event) (c : ℕ) (made : List Event) → Leaves before now → (length (opening c) ≤ length (before c)) ⊎ (made ≡ [])
      → now c ++ made ≡ opening c ++ drop (length (opening c)) (before c ++ made)
  leaves_more before now c made leaves h2 = grind (arith, append_assoc, drop-append-le, append-nil)

  leaves_less : (before now : ℕ → List Event) (c : ℕ) (made : List Event) → Leaves before now → ((length (before c) < length (opening c)) × (length made ≤ 1)) ⊎ (made ≡ [])
      → now c ≡ opening c ++ drop (length (opening c)) (before c ++ made)
  leaves_less before now c made leaves h2 = grind (arith, drop_all, length-append, append-nil)

  -- each of them is in its place, and they are all that came after the opening
  pub record IsKept (now : ℕ → List Event) (entries : List Entry) : Type 0 where
    pub legal : IsLegal now entries
    pub each_history : (c : ℕ) → now c ++ made_on c entries ≡ history c

  later_kept : (before now : ℕ → List Event) (entries : List Entry) → Leaves before now → IsLegal before entries → ((c : ℕ) → before c ++ made_on c entries ≡ history c) → IsKept now (filter is_later entries)
  later_kept before now [] leaves all ends = record {
    legal = tt;
    each_history = λ c.
        let whole : before c ≡ history c = sym (append-nil (before c)) ∙ ends c in
        let long : length (opening c) ≤ length (before c) = omega (arith, ap length whole, ap length (begins c).1, length-append (opening c) (begins c).0) in
        append-nil (now c) ∙ (leaves c ∙ (opened c (before c) [] (ends c) long ∙ whole));
  }
  later_kept before now (entry ∷ entries) leaves all ends =
      let k = entry.channel in
      let n = length (opening k) in
      let number = number_after_events (before k) entry.number entry.what all.0 in
      let made : ℕ → List Event = λ c. made_on c (entry ∷ []) in
      let rest : (c : ℕ) → (before c ++ made c) ++ made_on c entries ≡ history c = λ c. append_assoc (before c) (made c) (made_on c entries) ∙ (ap (λ l. before c ++ l) (sym (made_more c (entry ∷ []) entries)) ∙ ends c) in
      ⊎_elim
      (λ (early : entry.number < n).
      let next : Leaves (λ c. before c ++ made c) now = λ c. leaves_less before now c (made c) leaves (elim (cases_eq k c) [
        | inl same ↦ inl (subst (λ (d : ℕ). length (before d) < length (opening d)) same (omega (arith, early, number)), one_at_most (made_at c entry.channel entry.what))
        | inr other ↦ inr (none_on c entry other)
      ]) in
      rw (lt-ltb entry.number n early) (later_kept (λ c. before c ++ made c) now entries next all.1 rest))
      (λ (late : n ≤ entry.number).
      let next : Leaves (λ c. before c ++ made c) (λ c. now c ++ made c) = λ c. leaves_more before now c (made c) leaves (elim (cases_eq k c) [
        | inl same ↦ inl (subst (λ (d : ℕ). length (opening d) ≤ length (before d)) same (omega (arith, late, number)))
        | inr other ↦ inr (none_on c entry other)
      ]) in
      let kept = later_kept (λ c. before c ++ made c) (λ c. now c ++ made c) entries next all.1 rest in
      let here : before k ≡ now k = sym (leaves k ∙ opened k (before k) (made_on k (entry ∷ entries)) (ends k) (omega (arith, late, number))) in
      rw (le-ltb entry.number n late) (record {
        legal = (subst (λ (h : List Event). ComesAfter h entry.number entry.what) here all.0, kept.legal);
        each_history = λ c. ap (λ l. now c ++ l) (made_more c (entry ∷ []) (filter is_later entries)) ∙ (sym (append_assoc (now c) (made c) (made_on c (filter is_later entries))) ∙ kept.each_history c);
      }))
      (cases_lt entry.number n)

-- the order of what came after the opening
pub order_later : (opening : ℕ → List Event) (histories : List (List Event)) (order : List Entry) → (begins : (c : ℕ) → IsPrefix (opening c) (history_on c histories)) → IsTotalOrderOf no_opening histories order
    → IsTotalOrderOf opening histories (filter (is_later opening (λ c. history_on c histories) begins) order)
order_later opening histories order begins is =
    let kept = later_kept opening (λ c. history_on c histories) begins no_opening opening order (λ c. sym (append-nil (opening c)) ∙ ap (λ l. opening c ++ l) (sym (drop_all (length (opening c)) [] (omega arith)))) is.legal is.each_history in
    record { each_history = kept.each_history; legal = kept.legal }

-- what is not older stands in it
pub stands_later_in : (opening : ℕ → List Event) (histories : List (List Event)) (log order : List Entry) → (begins : (c : ℕ) → IsPrefix (opening c) (history_on c histories))
    → All (λ entry. length (opening entry.channel) ≤ entry.number) log → IsSubsequence log order → IsSubsequence log (filter (is_later opening (λ c. history_on c histories) begins) order)
stands_later_in opening histories log order begins late stands = grind (arith, stands_passed, is_later, le-ltb)
