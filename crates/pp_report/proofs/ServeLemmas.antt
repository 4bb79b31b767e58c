-- Workers whose accesses stand in one order are led along it, an access at a time, by steps of a machine.
use Rattle.std.proofs.Common.{◌≡◌, ◌≢◌, ℕ, ◌+◌, ◌<◌, ◌≤◌, cond, true, List, [], ◌∷◌, ◌++◌, length, map, Some, refl, sym, ap, ◌∙◌, subst, inl, inr, arith, append_assoc}
use Rattle.std.specs.Prelude.{◌⊎◌, ◌==◌, IsTrue, All, slice_index, slice_set}
use Rattle.std.specs.List.{cons_option, sum_by}
use Rattle.std.proofs.lemmas.Bool.{cases_eq, cases_lt, eq-eqb, ne_eqb}
use Rattle.std.proofs.lemmas.List.{append-nil, length-append, length-map, map-append}
use Rattle.std.proofs.lemmas.List.Elements.{All-head, All-nil, All-push, All-tail}
use Rattle.std.proofs.lemmas.List.Sums.{sum_by-append, sum_by-cons}
use Rattle.pp_numbers.specs.Subsequence.{IsSubsequence}
use Rattle.pp_channel.specs.Answer.{flags_of}
use Rattle.pp_numbers.specs.ChannelNo.{names_channel}
use Rattle.pp_channel.specs.History.{IsLawful}
use Rattle.pp_line.specs.Merge.{times_logged}
use Rattle.pp_line.specs.Order.{IsLegal, ComesAfter, FindsWords, entries_among, left_by, made_at, made_on}
use Rattle.pp_report.specs.Types.{Access, Answer, Did, Entry, Event, Flags, Need, OnChannel, Profile, Read, Saw, Seen, Write}
use Rattle.pp_channel.proofs.FrontLemmas.{lawful_front}
use Rattle.pp_line.proofs.MergeLemmas.{told_by, told_here, told_not}
use Rattle.pp_line.proofs.OrderLemmas.{made_more}
use Rattle.pp_processor.specs.NeedAndEffect.{need}
use Rattle.pp_processor.specs.Processor.{Processor}
use Rattle.pp_numbers.specs.Profile.{processors_in}
use Rattle.pp_runner.specs.WorkerReport.{IsBySize}
use Rattle.pp_report.proofs.AnswerLemmas.{event_answer, look_answer, made_by}
use Rattle.pp_report.proofs.MachineLemmas.{Past, Leads, leads_none, leads_on, serves_by, serves_look, serves_event, serves_read, serves_write}
use Rattle.pp_report.proofs.WorkingLemmas.{Working, IsWorking, HasNext, all_of, ServesAccess, next, rest_done}

-- what an entry tells
told_look : (c number : ℕ) (entry : Entry) (f : Flags) → entry.what ≡ Saw f → told_by c number entry ≡ 0
told_look c number entry f is = rw is refl

told_event : (c number : ℕ) (entry : Entry) (e : Event) → entry.what ≡ Did e → (entry.channel ≢ c) ⊎ (entry.number ≢ number) → told_by c number entry ≡ 0
told_event c number entry e is other = rw is (told_not c number entry.channel entry.number e other)

told_itself : (entry : Entry) (e : Event) → entry.what ≡ Did e → told_by entry.channel entry.number entry ≡ 1
told_itself entry e is = rw is (told_here entry.channel entry.number entry.channel entry.number e refl refl)

-- how often an access tells an event, and a write
abbrev pub tells_event : ℕ → ℕ → Access → ℕ
tells_event c number (OnChannel entry) = told_by c number entry
tells_event c number (Read a w) = 0
tells_event c number (Write a w n) = 0

abbrev pub tells_write : ℕ → Access → ℕ
tells_write k (OnChannel entry) = 0
tells_write k (Read a w) = 0
tells_write k (Write a w n) = cond (n == k) 1 0

pub event_times : (c number : ℕ) (xs : List Access) → sum_by (tells_event c number) xs ≡ times_logged c number (entries_among xs)
event_times c number [] = refl
event_times c number (OnChannel entry ∷ xs) = omega (arith, sum_by-cons (tells_event c number) (OnChannel entry) xs, event_times c number xs, sum_by-cons (told_by c number) entry (entries_among xs))
event_times c number (Read a w ∷ xs) = omega (arith, sum_by-cons (tells_event c number) (Read a w) xs, event_times c number xs)
event_times c number (Write a w n ∷ xs) = omega (arith, sum_by-cons (tells_event c number) (Write a w n) xs, event_times c number xs)

-- how often the accesses that a worker has left do
abbrev pub times_left : (Access → ℕ) → Working → ℕ
times_left tells w = sum_by tells w.accesses

-- what stands among others tells no more
pub sum_stands : {X : Type 0} (tells : X → ℕ) (xs ys : List X) → IsSubsequence xs ys → sum_by tells xs ≤ sum_by tells ys
sum_stands tells [] ys h = omega arith
sum_stands tells (x ∷ xs) [] h = absurd h
sum_stands tells (x ∷ xs) (y ∷ ys) h =
    let left = sum_by-cons tells x xs in
    let right = sum_by-cons tells y ys in
    elim h [
      | inl p ↦ let same : tells x ≡ tells y = ap tells p.0 in let rest = sum_stands tells xs ys p.1 in omega (arith, left, right, same, rest)
      | inr q ↦ let rest = sum_stands tells (x ∷ xs) ys q in omega (arith, right, rest)
    ]

-- the writes of an order are numbered, from this number on
abbrev pub NumberedFrom : ℕ → List Access → Type 0
NumberedFrom k [] = Unit {0}
NumberedFrom k (OnChannel entry ∷ os) = NumberedFrom k os
NumberedFrom k (Read a w ∷ os) = NumberedFrom k os
NumberedFrom k (Write a w n ∷ os) = (n ≡ k) × NumberedFrom (k + 1) os

another_write : (k a w n : ℕ) → n ≢ k → tells_write k (Write a w n) ≡ 0
another_write k a w n other = ap (λ b. cond b 1 0) (ne_eqb n k other)

not_written : (m k : ℕ) (os : List Access) → NumberedFrom m os → k < m → sum_by (tells_write k) os ≡ 0
not_written m k [] numbered early = refl
not_written m k (OnChannel entry ∷ os) numbered early = omega (arith, sum_by-cons (tells_write k) (OnChannel entry) os, not_written m k os numbered early)
not_written m k (Read a w ∷ os) numbered early = omega (arith, sum_by-cons (tells_write k) (Read a w) os, not_written m k os numbered early)
not_written m k (Write a w n ∷ os) numbered early = grind (arith, another_write, sum_by-cons, tells_write, not_written (m + 1) k os numbered.1 (omega (arith, early)))

-- entries in their places tell no event that has come before
told_in_place : (c number : ℕ) (happened : ℕ → List Event) (entry : Entry) (what : Seen) → entry.what ≡ what → ComesAfter (happened entry.channel) entry.number what → number < length (happened c) → told_by c number entry ≡ 0
told_in_place c number happened entry what is comes early = grind (arith, told_look, told_event, cases_eq)

not_early : (c number : ℕ) (happened : ℕ → List Event) (os : List Entry) → IsLegal happened os → number < length (happened c) → times_logged c number os ≡ 0
not_early c number happened [] all early = refl
not_early c number happened (entry ∷ os) all early =
    let here = told_in_place c number happened entry entry.what refl all.0 early in
    let more = length-append (happened c) (made_on c (entry ∷ [])) in
    let rest = not_early c number (λ d. happened d ++ made_on d (entry ∷ [])) os all.1 (omega (arith, more, early)) in
    omega (arith, sum_by-cons (told_by c number) entry os, here, rest)

-- the head of what stands among accesses is the first of them, or comes later
head_here : (xs : List Access) (access : Access) (os : List Access) → IsSubsequence xs (access ∷ os) → IsSubsequence xs os ⊎ ((rest : List Access) × (xs ≡ access ∷ rest) × IsSubsequence rest os)
head_here [] access os h = inl tt
head_here (x ∷ xs) access os h = elim h [ inl p ↦ inr (xs, ap (λ y. y ∷ xs) p.0, p.1) | inr q ↦ inl q ]

push_front : (front ws : List Working) (w : Working) → (front ++ w ∷ []) ++ ws ≡ front ++ w ∷ ws
push_front front ws w = append_assoc front (w ∷ []) ws

-- a worker with no answers left
abbrev pub HasNoneLeft : Working → Type 0
HasNoneLeft w = w.answers ≡ []

abbrev after_of : Working → Processor
after_of w = w.after

module _ (size : ℕ) (p : Profile) (others : List Processor) where
  -- a worker whose accesses stand in the order that is left
  pub record Ready (os : List Access) (w : Working) : Type 0 where
    pub working : IsWorking size w
    pub stands : IsSubsequence w.accesses os

  -- all workers are led past an access of the order
  pub record Served (ws : List Working) (past later : Past) (access : Access) (os : List Access) : Type 0 where
    pub now : List Working
    pub ready : All (Ready os) now
    pub afters : map (λ w. w.after) now ≡ map (λ w. w.after) ws
    pub counts : (tells : Access → ℕ) → tells access ≡ 0 → sum_by (times_left tells) now ≡ sum_by (times_left tells) ws
    pub leads : Leads size p (all_of others ws) past (all_of others now) later

  -- a worker between others that has made the step of the access
  module _ (front ws : List Working) (w : Working) (access : Access) (rest : List Access) (past later : Past) (is : w.accesses ≡ access ∷ rest) (inside : length front < processors_in p) (moved : HasNext size p others front ws inside w rest past later) where
    moved_counts : (tells : Access → ℕ) → tells access ≡ 0 → sum_by (times_left tells) (front ++ moved.now ∷ ws) ≡ sum_by (times_left tells) (front ++ w ∷ ws)
    moved_counts tells none = grind (arith, sum_by-cons, sum_by-append)

    moved_afters : map after_of (front ++ moved.now ∷ ws) ≡ map after_of (front ++ w ∷ ws)
    moved_afters = map-append after_of front (moved.now ∷ ws) ∙ (ap (λ q. map after_of front ++ q ∷ map after_of ws) moved.after_is ∙ sym (map-append after_of front (w ∷ ws)))

  few_pushed : (front ws : List Working) (w v : Working) → length (front ++ w ∷ ws) ≤ processors_in p → length ((front ++ v ∷ []) ++ ws) ≤ processors_in p
  few_pushed front ws w v few = omega (arith, few, length-append front (w ∷ ws), length-append (front ++ v ∷ []) ws, length-append front (v ∷ []))

  front_inside : (front ws : List Working) (w : Working) → length (front ++ w ∷ ws) ≤ processors_in p → length front < processors_in p
  front_inside front ws w few = omega (arith, few, length-append front (w ∷ ws))

  -- An access may be served so: whoever has it next can make its step from what has come to pass, and so can those behind afterwards.
  abbrev May : Access → List Access → Past → Past → List Working → Type 0
  May access os later past [] = past ≡ later
  May access os later past (w ∷ ws) =
      ((rest : List Access) → w.accesses ≡ access ∷ rest → ServesAccess size access past later × May access os later later ws) × (IsSubsequence w.accesses os → May access os later past ws)

  -- a look changes nothing
  may_look : (access : Access) (os : List Access) (past : Past) → ServesAccess size access past past → (ws : List Working) → May access os past past ws
  may_look access os past serves [] = refl
  may_look access os past serves (w ∷ ws) = (λ rest is. (serves, may_look access os past serves ws), λ _. may_look access os past serves ws)

  -- an event or a write is made by one
  module _ (access : Access) (os : List Access) (past later : Past) (serves : ServesAccess size access past later) (tells : Access → ℕ) (one : tells access ≡ 1) (never : (xs : List Access) → IsSubsequence xs os → sum_by tells xs ≡ 0) where
    may_none : (ws : List Working) → sum_by (times_left tells) ws ≡ 0 → May access os later later ws
    may_none [] none = refl
    may_none (w ∷ ws) none =
        let parts = sum_by-cons (times_left tells) w ws in (
          λ rest is. let was = ap (sum_by tells) is ∙ sum_by-cons tells access rest in absurd (omega (arith, parts, none, was, one)),
          λ _. may_none ws (omega (arith, parts, none)),
        )

    may_one : (ws : List Working) → sum_by (times_left tells) ws ≡ 1 → May access os later past ws
    may_one [] sum = absurd (omega (arith, sum))
    may_one (w ∷ ws) sum =
        let parts = sum_by-cons (times_left tells) w ws in (
          λ rest is. let was = ap (sum_by tells) is ∙ sum_by-cons tells access rest in (serves, may_none ws (omega (arith, sum, parts, was, one))),
          λ behind. let none = never w.accesses behind in may_one ws (omega (arith, sum, parts, none)),
        )

  serve_each : (access : Access) (os : List Access) (past later : Past) (front ws : List Working) → length (front ++ ws) ≤ processors_in p
      → All (Ready os) front → All (Ready (access ∷ os)) ws → May access os later past ws → Served (front ++ ws) past later access os
  serve_each access os past later front [] few done left may = record {
    now = front;
    ready = done;
    afters = ap (map after_of) (sym (append-nil front));
    counts = λ tells _. ap (sum_by (times_left tells)) (sym (append-nil front));
    leads = grind (arith, all_of, append-nil, leads_none);
  }
  serve_each access os past later front (w ∷ ws) few done left may =
      let here = All-head (Ready (access ∷ os)) w ws left in
      let more = All-tail (Ready (access ∷ os)) w ws left in
      elim (head_here w.accesses access os here.stands) [
        | inl behind ↦ grind (arith, push_front, few_pushed, serve_each access os past later (front ++ w ∷ []) ws (few_pushed front ws w w few) (All-push (Ready os) front w done (record { working = here.working; stands = behind })) more (may.1 behind))
        | inr first ↦
            let serves = may.0 first.0 first.1 in
            let inside = front_inside front ws w few in
            let moved = next size p others front ws inside w.answers w.pp w.accesses w.after access first.0 past later here.working first.1 serves.0 in
            let ready : Ready os moved.now = record { working = moved.working; stands = subst (λ (es : List Access). IsSubsequence es os) (sym moved.accesses) first.2 } in
            let served = subst (λ (us : List Working). Served us later later access os) (push_front front ws moved.now)
            (serve_each access os later later (front ++ moved.now ∷ []) ws (few_pushed front ws w moved.now few) (All-push (Ready os) front moved.now done ready) more serves.1) in record {
              now = served.now;
              ready = served.ready;
              afters = served.afters ∙ moved_afters front ws w access first.0 past later first.1 inside moved;
              counts = λ tells none. served.counts tells none ∙ moved_counts front ws w access first.0 past later first.1 inside moved tells none;
              leads = leads_on size p (all_of others (front ++ w ∷ ws)) (all_of others (front ++ moved.now ∷ ws)) (all_of others served.now) past later later moved.leads served.leads;
            }
      ]

  -- All have made all steps, to the histories and the words that these end in.
  pub record Finished (was before : List Working) (past end : Past) : Type 0 where
    pub now : List Working
    pub processors : map (λ w. w.pp) now ≡ map (λ w. w.after) was
    pub none : All HasNoneLeft now
    pub leads : Leads size p (all_of others before) past (all_of others now) end

  none_stand : (xs : List Access) → IsSubsequence xs [] → xs ≡ []
  none_stand [] h = refl
  none_stand (x ∷ xs) h = absurd h

  abbrev pp_of : Working → Processor
  pp_of w = w.pp

  -- the steps that are left, once no accesses are
  end_each : (was front ws : List Working) (past : Past) → map pp_of front ≡ map after_of was → All HasNoneLeft front → length (front ++ ws) ≤ processors_in p → All (Ready []) ws → Finished (was ++ ws) (front ++ ws) past past
  end_each was front [] past same none few left = grind (arith, after_of, append-nil, all_of, leads_none)
  end_each was front (w ∷ ws) past same none few left =
      let here = All-head (Ready []) w ws left in
      let done = rest_done size p others front ws (front_inside front ws w few) w.answers w.pp w.accesses w.after past here.working (none_stand w.accesses here.stands) in
      let pushed : map pp_of (front ++ done.now ∷ []) ≡ map after_of (was ++ w ∷ []) = map-append pp_of front (done.now ∷ []) ∙ ((λ j. same j ++ done.done j ∷ []) ∙ sym (map-append after_of was (w ∷ []))) in
      let more = end_each (was ++ w ∷ []) (front ++ done.now ∷ []) ws past pushed (All-push HasNoneLeft front done.now none done.none) (few_pushed front ws w done.now few) (All-tail (Ready []) w ws left) in record {
        now = more.now;
        processors = more.processors ∙ ap (map after_of) (push_front was ws w);
        none = more.none;
        leads = leads_on size p (all_of others (front ++ w ∷ ws)) (all_of others (front ++ done.now ∷ ws)) (all_of others more.now) past past past done.leads
            (subst (λ (us : List Working). Leads size p (all_of others us) past (all_of others more.now) past) (push_front front ws done.now) more.leads);
      }

  -- Along a whole order.
  go_on : (access : Access) (os : List Access) (ws : List Working) (past later end : Past) → (served : Served ws past later access os) → Finished served.now served.now later end → Finished ws ws past end
  go_on access os ws past later end served rest = record {
    now = rest.now;
    processors = rest.processors ∙ served.afters;
    none = rest.none;
    leads = leads_on size p (all_of others ws) (all_of others served.now) (all_of others rest.now) past later end served.leads rest.leads;
  }

  still_few : (access : Access) (os : List Access) (ws : List Working) (past later : Past) → (served : Served ws past later access os) → length ws ≤ processors_in p → length served.now ≤ processors_in p
  still_few access os ws past later served few = grind (arith, length-map, after_of)

  -- what is left by an access
  abbrev pub With : Past → Access → Past
  With past (OnChannel entry) = record past { happened = λ c. past.happened c ++ made_on c (entry ∷ []) }
  With past (Read a w) = past
  With past (Write a w n) = record past { words = slice_set past.words a w }

  -- a read and a write of central memory
  reads : (a w : ℕ) (past : Past) → slice_index past.words a ≡ w → ServesAccess size (Read a w) past past
  reads a w past found pp x number goes given =
      let is = made_by (need pp) x number (Read a w) goes.fit given in
      let by_size : IsBySize size (Need.Read a) (Answer.Read (Some w)) = subst (λ (n : Need). IsBySize size n (Answer.Read (Some w))) is.0 (subst (λ (y : Answer). IsBySize size (need pp) y) is.1 goes.by_size) in
      let inside : a < size = elim (cases_lt a size) [ inl less ↦ less | inr behind ↦ let no = by_size.1 behind in absurd cc ] in
      serves_by size (need pp) (Need.Read a) x (Answer.Read (Some w)) past past is.0 is.1 (serves_read size a w past found inside)

  writes : (a w n : ℕ) (past : Past) → ServesAccess size (Write a w n) past (With past (Write a w n))
  writes a w n past pp x number goes given =
      let is = made_by (need pp) x number (Write a w n) goes.fit given in
      let by_size : IsBySize size (Need.Write a w) (Answer.Wrote true) = subst (λ (m : Need). IsBySize size m (Answer.Wrote true)) is.0 (subst (λ (y : Answer). IsBySize size (need pp) y) is.1 goes.by_size) in
      serves_by size (need pp) (Need.Write a w) x (Answer.Wrote true) past (With past (Write a w n)) is.0 is.1 (serves_write size a w past (With past (Write a w n)) (by_size.0 refl) (λ c. refl) refl)

  module _ (history : ℕ → List Event) (lawful : (c : ℕ) → IsLawful (history c)) (named : (c : ℕ) → 0 < length (history c) → IsTrue (names_channel c)) where
    looks : (entry : Entry) (f : Flags) (past : Past) → entry.what ≡ Saw f → f ≡ flags_of (past.happened entry.channel) → ServesAccess size (OnChannel entry) past past
    looks entry f past is now pp x number goes given =
        let on = made_by (need pp) x number (OnChannel entry) goes.fit given in
        let of = on.of in
        let answer = look_answer size pp x (past.happened of.c) f goes of (on.seen ∙ is) (now ∙ ap (λ c. flags_of (past.happened c)) (sym on.channel)) in
        serves_by size (need pp) (Need.Channel of.c of.op) x (Answer.Channel of.reply) past past of.needs_it of.is (serves_look size of.c of.op of.reply past answer.is answer.none)

    made_none : (c : ℕ) (entry : Entry) (f : Flags) → entry.what ≡ Saw f → made_on c (entry ∷ []) ≡ []
    made_none c entry f is = ap (λ what. cons_option (made_at c entry.channel what) []) is

    made_here : (c : ℕ) (entry : Entry) (e : Event) → entry.what ≡ Did e → c ≡ entry.channel → made_on c (entry ∷ []) ≡ e ∷ []
    made_here c entry e is at = ap (λ what. cons_option (made_at c entry.channel what) []) is ∙ rw (eq-eqb entry.channel c (sym at)) refl

    made_elsewhere : (c : ℕ) (entry : Entry) (e : Event) → entry.what ≡ Did e → entry.channel ≢ c → made_on c (entry ∷ []) ≡ []
    made_elsewhere c entry e is other = ap (λ what. cons_option (made_at c entry.channel what) []) is ∙ rw (ne_eqb entry.channel c other) refl

    makes : (entry : Entry) (e : Event) (es : List Entry) (past : Past) → entry.what ≡ Did e → ((c : ℕ) → past.happened c ++ made_on c (entry ∷ es) ≡ history c) → ServesAccess size (OnChannel entry) past (With past (OnChannel entry))
    makes entry e es past is ends pp x number goes given =
        let on = made_by (need pp) x number (OnChannel entry) goes.fit given in
        let of = on.of in
        let c = of.c in
        let happened = past.happened in
        let later : ℕ → List Event = (With past (OnChannel entry)).happened in
        let here : later c ≡ happened c ++ e ∷ [] = ap (λ l. happened c ++ l) (made_here c entry e is on.channel) in
        let whole : (happened c ++ e ∷ []) ++ made_on c es ≡ history c = ap (λ l. l ++ made_on c es) (sym here) ∙ (append_assoc (happened c) (made_on c (entry ∷ [])) (made_on c es) ∙ (ap (λ l. happened c ++ l) (sym (made_more c (entry ∷ []) es)) ∙ ends c)) in
        let next : IsLawful (happened c ++ e ∷ []) = lawful_front (happened c ++ e ∷ []) (made_on c es) (subst IsLawful (sym whole) (lawful c)) in
        let some : 0 < length (history c) = omega (arith, ap length whole, length-append (happened c ++ e ∷ []) (made_on c es), length-append (happened c) (e ∷ [])) in
        let answer = event_answer pp x (happened c) e of (on.seen ∙ is) (lawful_front (happened c) (e ∷ []) next) next in
        serves_by size (need pp) (Need.Channel of.c of.op) x (Answer.Channel of.reply) past (With past (OnChannel entry)) of.needs_it of.is (serves_event size c of.op of.reply e past (With past (OnChannel entry)) (named c some) answer.is answer.made here
        (λ d other. ap (λ l. happened d ++ l) (made_elsewhere d entry e is (λ same. other (on.channel ∙ same))) ∙ append-nil (happened d)) refl)

    -- each event that is still to come is left to one worker, and so is each write
    abbrev pub Once : List Working → (ℕ → List Event) → Type 0
    Once ws happened = (c number : ℕ) → length (happened c) ≤ number → number < length (history c) → sum_by (times_left (tells_event c number)) ws ≡ 1

    abbrev pub Written : List Working → ℕ → List Access → Type 0
    Written ws k os = (n : ℕ) → k ≤ n → sum_by (times_left (tells_write n)) ws ≡ sum_by (tells_write n) os

    by_what : (entry : Entry) (os : List Access) (ws : List Working) (past : Past) (what : Seen) → entry.what ≡ what → length ws ≤ processors_in p → All (Ready (OnChannel entry ∷ os)) ws
        → ComesAfter (past.happened entry.channel) entry.number what → IsLegal (With past (OnChannel entry)).happened (entries_among os) → ((c : ℕ) → past.happened c ++ made_on c (entry ∷ entries_among os) ≡ history c) → Once ws past.happened
        → Served ws past (With past (OnChannel entry)) (OnChannel entry) os
    by_what entry os ws past (Saw f) is few ready comes places ends once =
        let later = With past (OnChannel entry) in
        let same : past ≡ later = λ j. record past { happened = λ c. sym (ap (λ es. past.happened c ++ es) (made_none c entry f is) ∙ append-nil (past.happened c)) j } in
        subst (λ (end : Past). Served ws past end (OnChannel entry) os) same
        (serve_each (OnChannel entry) os past past [] ws few (All-nil (Ready os)) ready (may_look (OnChannel entry) os past (looks entry f past is comes.1) ws))
    by_what entry os ws past (Did e) is few ready comes places ends once =
        let c = entry.channel in
        let es = entries_among os in
        let happened = past.happened in
        let later = With past (OnChannel entry) in
        let here : later.happened c ≡ happened c ++ e ∷ [] = ap (λ l. happened c ++ l) (made_here c entry e is refl) in
        let longer = ap length here ∙ length-append (happened c) (e ∷ []) in
        let all = ap length (sym (ap (λ l. happened c ++ l) (made_more c (entry ∷ []) es) ∙ sym (append_assoc (happened c) (made_on c (entry ∷ [])) (made_on c es))) ∙ ends c) in
        serve_each (OnChannel entry) os past later [] ws few (All-nil (Ready os)) ready (may_one (OnChannel entry) os past later (makes entry e es past is ends) (tells_event c entry.number) (told_itself entry e is)
        (λ xs stands.
        let most = sum_stands (tells_event c entry.number) xs os stands in
        let none = not_early c entry.number later.happened es places (omega (arith, longer, comes)) in
        omega (arith, most, event_times c entry.number os, none))
        ws (once c entry.number (omega (arith, comes)) (omega (arith, comes, longer, all, length-append (later.happened c) (made_on c es)))))

    still_once : (entry : Entry) (ws now : List Working) (past : Past) (what : Seen) → entry.what ≡ what → ComesAfter (past.happened entry.channel) entry.number what
        → ((tells : Access → ℕ) → tells (OnChannel entry) ≡ 0 → sum_by (times_left tells) now ≡ sum_by (times_left tells) ws) → Once ws past.happened → Once now (With past (OnChannel entry)).happened
    still_once entry ws now past (Saw f) is comes counts once c number later inside =
        counts (tells_event c number) (told_look c number entry f is) ∙ once c number (omega (arith, later, length-append (past.happened c) (made_on c (entry ∷ [])))) inside
    still_once entry ws now past (Did e) is comes counts once c number later inside =
        let more = length-append (past.happened c) (made_on c (entry ∷ [])) in
        let none : told_by c number entry ≡ 0 = told_event c number entry e is (elim (cases_eq entry.channel c) [
          | inl same ↦ grind (arith, made_here)
          | inr other ↦ inl other
        ]) in
        counts (tells_event c number) none ∙ once c number (omega (arith, later, more)) inside

    -- the histories in the end, and the words that the accesses leave
    abbrev pub at_end : List ℕ → List Access → Past
    at_end words os = record { happened = history; words = left_by words os }

    pub serve : (os : List Access) (ws : List Working) (past : Past) (k : ℕ) → length ws ≤ processors_in p → All (Ready os) ws → IsLegal past.happened (entries_among os)
        → ((c : ℕ) → past.happened c ++ made_on c (entries_among os) ≡ history c) → Once ws past.happened → FindsWords past.words os → NumberedFrom k os → Written ws k os → Finished ws ws past (at_end past.words os)
    serve [] ws past k few ready places ends once finds numbered written =
        let same : past ≡ at_end past.words [] = λ j. record { happened = λ c. (sym (append-nil (past.happened c)) ∙ ends c) j; words = past.words } in
        subst (λ (end : Past). Finished ws ws past end) same (end_each [] [] ws past refl (All-nil HasNoneLeft) few ready)
    serve (OnChannel entry ∷ os) ws past k few ready places ends once finds numbered written =
        let later = With past (OnChannel entry) in
        let es = entries_among os in
        let served = by_what entry os ws past entry.what refl few ready places.0 places.1 ends once in
        go_on (OnChannel entry) os ws past later (at_end past.words (OnChannel entry ∷ os)) served
        (serve os served.now later k (still_few (OnChannel entry) os ws past later served few) served.ready places.1
        (λ c. append_assoc (past.happened c) (made_on c (entry ∷ [])) (made_on c es) ∙ (ap (λ l. past.happened c ++ l) (sym (made_more c (entry ∷ []) es)) ∙ ends c))
        (still_once entry ws served.now past entry.what refl places.0 served.counts once) finds.1 numbered
        (λ n least. omega (arith, served.counts (tells_write n) refl, written n least, sum_by-cons (tells_write n) (OnChannel entry) os)))
    serve (Read a w ∷ os) ws past k few ready places ends once finds numbered written =
        let served = serve_each (Read a w) os past past [] ws few (All-nil (Ready os)) ready (may_look (Read a w) os past (reads a w past finds.0) ws) in
        go_on (Read a w) os ws past past (at_end past.words (Read a w ∷ os)) served
        (serve os served.now past k (still_few (Read a w) os ws past past served few) served.ready places ends
        (λ c number least inside. served.counts (tells_event c number) refl ∙ once c number least inside) finds.1 numbered
        (λ n least. omega (arith, served.counts (tells_write n) refl, written n least, sum_by-cons (tells_write n) (Read a w) os)))
    serve (Write a w n ∷ os) ws past k few ready places ends once finds numbered written =
        let later = With past (Write a w n) in
        let one : tells_write k (Write a w n) ≡ 1 = ap (λ b. cond b 1 0) (eq-eqb n k numbered.0) in
        let none = not_written (k + 1) k os numbered.1 (omega arith) in
        let served = serve_each (Write a w n) os past later [] ws few (All-nil (Ready os)) ready (may_one (Write a w n) os past later (writes a w n past) (tells_write k) one
        (λ xs stands. let most = sum_stands (tells_write k) xs os stands in omega (arith, most, none))
        ws (let sum = written k (omega arith) in omega (arith, sum, one, none, sum_by-cons (tells_write k) (Write a w n) os))) in
        go_on (Write a w n) os ws past later (at_end past.words (Write a w n ∷ os)) served
        (serve os served.now later (k + 1) (still_few (Write a w n) os ws past later served few) served.ready places ends
        (λ c number least inside. served.counts (tells_event c number) refl ∙ once c number least inside) finds.1 numbered.1
        (λ m least.
        let other = another_write m a w n (λ same. omega (arith, same, numbered.0, least)) in
        omega (arith, served.counts (tells_write m) other, written m (omega (arith, least)), other, sum_by-cons (tells_write m) (Write a w n) os)))
