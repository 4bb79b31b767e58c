-- The log of a line that opened channels: what the other logs merge to without it, and what one Activate writes there.
use Rattle.std.proofs.Common.{◌≡◌, ℕ, suc, ◌+◌, ◌<◌, ◌≤◌, ◌≢◌, ⊎_elim, eqb, true, false, cond, List, [], ◌∷◌, ◌++◌, length, take, refl, sym, ap, ◌∙◌, subst, arith}
use mathlib.Core.Logic.{dite}
use native.Mathlib.Decide.{ℕ_discrete}
use Rattle.std.specs.Prelude.{Some, ◌&&◌, slice_get, slice_set}
use Rattle.std.specs.List.{All}
use Rattle.std.proofs.lemmas.Bool.{cases_lt, cases_Bool, eqb-true, and_parts, false≢true}
use Rattle.std.proofs.lemmas.List.{append-nil, nil_from_length, get_or-set_same}
use Rattle.std.proofs.lemmas.List.Elements.{All-head, All-tail, All-push, All-weaker}
use Rattle.std.proofs.lemmas.List.Sums.{sum_by-cons}
use Rattle.std.proofs.lemmas.Option.{slice_get_within}
use Rattle.pp_line.specs.Types.{ChanOp, Entry, Event, Numbered, Reply, Seen}
use Rattle.pp_channel.specs.declared.event.Event.TheVariants.{Activate}
use Rattle.pp_channel.specs.Answer.{IsAnswer}
use Rattle.pp_numbers.specs.ChannelNo.{channel_count, channel_index}
use Rattle.pp_channel.specs.Law.{IsPrefix}
use Rattle.pp_line.specs.LineLog.{is_event, appended, event_entry}
use Rattle.pp_line.specs.LineState.{LineState, IsActed, IsWornOut, number_after}
use Rattle.pp_line.specs.Merge.{IsTrueAt, IsTrueOf, logs_event, times_logged, Merges, IsOpeningLog, no_opening}
use Rattle.pp_channel.specs.History.{history_on}
use Rattle.pp_channel.proofs.AnswerLemmas.{answer_by_table}
use Rattle.pp_channel.proofs.HistoryLemmas.{lawful_empty}
use Rattle.pp_line.proofs.ListFacts.{All-front, All-back}
use Rattle.pp_line.proofs.MergeLemmas.{once_below, once_inside, once_most, once_past, told_by, told_elsewhere, told_next, true_front, tells_once, times_told-append, times_told_push}

-- an entry is true of histories, one for each number of a channel
abbrev IsTrueIn : (ℕ → List Event) → Entry → Type 0
IsTrueIn h entry = IsTrueAt (h entry.channel) entry.number entry.what

-- an entry that tells an event, and is true of two histories, shows that they have the same event there
same_by_entry : (c number : ℕ) (g h : ℕ → List Event) (d n : ℕ) (what : Seen) → (is_event what && (eqb d c) && (eqb n number)) ≡ true → IsTrueAt (g d) n what → IsTrueAt (h d) n what → slice_get (g c) number ≡ slice_get (h c) number
same_by_entry c number g h d n what t p q = grind (arith, and_parts, eqb-true, false≢true)

-- so does a log that tells it
same_by_log : (c number : ℕ) (g h : ℕ → List Event) (log : List Entry) → 0 < times_logged c number log → All (IsTrueIn g) log → All (IsTrueIn h) log → slice_get (g c) number ≡ slice_get (h c) number
same_by_log c number g h [] l p q = absurd (omega arith)
same_by_log c number g h (entry ∷ log) l p q =
    let sum : times_logged c number (entry ∷ log) ≡ told_by c number entry + times_logged c number log = sum_by-cons (told_by c number) entry log in
    ⊎_elim (λ (t : logs_event c number entry ≡ true). same_by_entry c number g h entry.channel entry.number entry.what t (All-head (IsTrueIn g) entry log p) (All-head (IsTrueIn h) entry log q))
    (λ (t : logs_event c number entry ≡ false).
    let none : told_by c number entry ≡ 0 = ap (λ b. cond b 1 0) t in
    same_by_log c number g h log (omega arith) (All-tail (IsTrueIn g) entry log p) (All-tail (IsTrueIn h) entry log q)) (cases_Bool (logs_event c number entry))

-- a list whose elements stand at the same places of another is its front
prefix_by_places : {X : Type 0} (some all : List X) → ((n : ℕ) → n < length some → slice_get some n ≡ slice_get all n) → IsPrefix some all
prefix_by_places [] all same = (all, refl)
prefix_by_places (x ∷ some) [] same = let none : 0 < 0 = slice_get_within [] 0 x (sym (same 0 (omega arith))) in absurd (omega arith)
prefix_by_places (x ∷ some) (y ∷ all) same =
    let first : Some x ≡ Some y = same 0 (omega arith) in
    let is : x ≡ y = cc in
    let rest = prefix_by_places some all (λ n l. same (suc n) (omega arith)) in
    (rest.0, ap (λ l. x ∷ l) rest.1 ∙ ap (λ z. z ∷ all) is)

-- a log of opening histories, by one count
tells_opening : (opening : ℕ → List Event) (log : List Entry) → IsOpeningLog opening log → (c number : ℕ) → times_logged c number log ≡ once_below number (length (opening c))
tells_opening opening log is c number =
    let end : ℕ = length (opening c) in
    ⊎_elim (λ (l : number < end). is.once c number l ∙ sym (once_inside number end l)) (λ (l : end ≤ number). is.no_other c number l ∙ sym (once_past number end l)) (cases_lt number end)

opening_by : (opening : ℕ → List Event) (log : List Entry) → ((c number : ℕ) → times_logged c number log ≡ once_below number (length (opening c))) → All (IsTrueIn opening) log → IsOpeningLog opening log
opening_by opening log tells true_of = record {
  once = λ c number l. tells c number ∙ once_inside number (length (opening c)) l;
  no_other = λ c number l. tells c number ∙ once_past number (length (opening c)) l;
  entries_true = true_of;
}

-- one log beside another that is taken out
merges_by_counts : (opening : ℕ → List Event) (histories : List (List Event)) (first log whole : List Entry)
    → IsOpeningLog opening first → Merges no_opening histories whole
    → ((c number : ℕ) → times_logged c number whole ≡ times_logged c number first + times_logged c number log)
    → All (IsTrueOf histories) first → All (IsTrueOf histories) log → Merges opening histories log
merges_by_counts opening histories first log whole is m sum first_true log_true =
    let all = tells_once histories whole m in
    let some = tells_opening opening first is in
    record {
      once = λ c number from below.
          omega (arith, sum c number, all c number, some c number, once_inside number (length (history_on c histories)) below, once_past number (length (opening c)) from);
      no_other = λ c number out.
          ⊎_elim
          (λ (l : number < length (opening c)). omega (arith, sum c number, all c number, some c number, once_inside number (length (opening c)) l, once_most number (length (history_on c histories))))
          (λ (past : length (history_on c histories) ≤ number). omega (arith, sum c number, all c number, once_past number (length (history_on c histories)) past)) out;
      begins = λ c. prefix_by_places (opening c) (history_on c histories)
          (λ number l. let f = is.once c number l in same_by_log c number opening (λ d. history_on d histories) first (omega (arith, f)) is.entries_true first_true);
      entries_true = log_true;
    }

-- Where a log of opening histories and then other logs merge over none, the others merge over the opening histories.
pub merges_after : (opening : ℕ → List Event) (histories : List (List Event)) (first log : List Entry)
    → IsOpeningLog opening first → Merges no_opening histories (first ++ log) → Merges opening histories log
merges_after opening histories first log is m =
    merges_by_counts opening histories first log (first ++ log) is m (λ c number. times_told-append c number first log)
    (All-front (IsTrueOf histories) first log m.entries_true) (All-back (IsTrueOf histories) first log m.entries_true)

-- one channel more has an opening history, an Activate
pub opening_more : (before after : ℕ → List Event) (c : ℕ) (log : List Entry) → before c ≡ [] → after c ≡ Activate ∷ [] → ((d : ℕ) → d ≢ c → after d ≡ before d) → IsOpeningLog before log → IsOpeningLog after (log ++ event_entry c 0 Activate ∷ [])
opening_more before after c log none one same is =
    let entry : Entry = event_entry c 0 Activate in
    let grows : (d : ℕ) → IsPrefix (before d) (after d) = λ d. dite (ℕ_discrete d c)
    (λ (e : d ≡ c). (Activate ∷ [], ap (λ h. h ++ Activate ∷ []) (ap before e ∙ none) ∙ sym (ap after e ∙ one)))
    (λ (other : d ≢ c). ([], append-nil (before d) ∙ sym (same d other))) in
    opening_by after (log ++ entry ∷ [])
    (λ d number.
    let sum = times_told_push d number log entry in
    let was = tells_opening before log is d number in
    dite (ℕ_discrete d c)
    (λ (e : d ≡ c).
    let next = told_next d number c 0 Activate (sym e) in
    let old : once_below number (length (before d)) ≡ once_below number 0 = ap (λ h. once_below number (length h)) (ap before e ∙ none) in
    let new : once_below number (length (after d)) ≡ once_below number (0 + 1) = ap (λ h. once_below number (length h)) (ap after e ∙ one) in
    omega (arith, sum, was, next, old, new))
    (λ (other : d ≢ c).
    let away = told_elsewhere d number c 0 Activate (λ e. other (sym e)) in
    let kept = ap (λ h. once_below number (length h)) (same d other) in
    omega (arith, sum, was, away, kept)))
    (All-push (IsTrueIn after) log entry
    (All-weaker (IsTrueIn before) (IsTrueIn after) (λ x p. let g = grows x.channel in
    subst (λ h. IsTrueAt h x.number x.what) g.1 (true_front (before x.channel) g.0 x.number x.what p)) log is.entries_true)
    (ap (λ h. slice_get h 0) one))

-- histories that are the same
pub opening_same : (before after : ℕ → List Event) (log : List Entry) → ((d : ℕ) → before d ≡ after d) → IsOpeningLog before log → IsOpeningLog after log
opening_same before after log same is = subst (λ (h : ℕ → List Event). IsOpeningLog h log) (λ i d. same d i) is

-- the first Activate on channel c, by a line that holds every share: it is made, and written at number 0
pub record HasActivated (line : LineState) (c : ℕ) (r : Numbered) (after : LineState) : Type 0 where
  pub done : r.reply ≡ Reply.Done
  pub written : after.log ≡ appended line.log (event_entry c 0 Activate)

unlogged_is_empty : (c : ℕ) (histories : List (List Event)) (log : List Entry) → Merges no_opening histories log → times_logged c 0 log ≡ 0 → history_on c histories ≡ []
unlogged_is_empty c histories log m none =
    nil_from_length (history_on c histories)
    (⊎_elim (λ (l : 0 < length (history_on c histories)). let one = m.once c 0 (omega arith) l in absurd (omega (arith, one, none))) (λ (l : length (history_on c histories) ≤ 0). omega arith) (cases_lt 0 (length (history_on c histories))))

pub activated : (line after : LineState) (c : ℕ) (r : Numbered) → channel_index c < channel_count → line.view.shares ≡ line.view.whole → times_logged c 0 line.log.entries ≡ 0 → IsActed line c ChanOp.Activate r after → HasActivated line c r after
activated line after c r named all none acted =
    let h : List Event = history_on c acted.histories in
    let alone = acted.alone all in
    let within : channel_index c < length acted.histories = omega (arith, acted.known.sound.each_channel, named) in
    let there : history_on c (slice_set acted.histories (channel_index c) (take r.loaded h)) ≡ take r.loaded h = get_or-set_same acted.histories (channel_index c) (take r.loaded h) [] within in
    let empty : take r.loaded h ≡ [] = sym there ∙ unlogged_is_empty c (slice_set acted.histories (channel_index c) (take r.loaded h)) line.log.entries alone.1 none in
    let answer : IsAnswer [] ChanOp.Activate r.reply h = subst (λ f. IsAnswer f ChanOp.Activate r.reply h) empty (acted.answer.at_once alone.0) in
    let made = (answer_by_table [] ChanOp.Activate r.reply h lawful_empty).0 answer in
    let done : r.reply ≡ Reply.Done = made.0 in
    let one : length h ≡ 1 = ap length made.1 in
    let now : length h ≡ r.number + 1 = acted.answer.now ∙ ap (λ x. number_after r.number x) done in
    let first : r.number ≡ 0 = omega (arith, one, now) in
    record {
      done = done;
      written = grind arith;
    }

-- it is never worn
pub never_worn : (line after : LineState) (c : ℕ) (op : ChanOp) → line.view.shares ≡ line.view.whole → times_logged c 0 line.log.entries ≡ 0 → IsWornOut line c op after → ⊥
never_worn line after c op all none worn =
    let log : after.log.entries ≡ line.log.entries = ap (λ l. l.log.entries) worn.after_is in
    let merged = (worn.known.all_known (ap (λ l. l.view.shares) worn.after_is ∙ (all ∙ ap (λ l. l.view.whole) (sym worn.after_is)))).merged in
    let told : times_logged c 0 after.log.entries ≡ 0 = ap (λ l. times_logged c 0 l) log ∙ none in
    let empty : length (history_on c worn.histories) ≡ 0 = ap length (unlogged_is_empty c worn.histories after.log.entries merged told) in
    omega (arith, empty, worn.worn)
