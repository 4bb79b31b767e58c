-- Logs that merge to histories, by one count, and logs along histories that grow.
use Rattle.std.proofs.Common.{◌≡◌, ℕ, ◌+◌, ◌<◌, ◌≤◌, ◌≢◌, ◌⊎◌, inl, inr, ⊎_elim, eqb, ltb, true, false, cond, List, [], ◌∷◌, ◌++◌, length, set, refl, sym, ap, ◌∙◌, subst, arith}
use mathlib.Core.Logic.{dite}
use native.Mathlib.Decide.{ℕ_discrete}
use Rattle.std.specs.Prelude.{Some, IsTrue, ◌&&◌, slice_get}
use Rattle.std.specs.List.{All}
use Rattle.std.proofs.lemmas.Bool.{cases_lt, cases_Bool, lt-ltb, le-ltb, eq-eqb, ne_eqb, eqb-true, and_parts, and_from, and_left, and_right, false≢true}
use Rattle.std.proofs.lemmas.List.{append-nil, length-append, take-append-le, get_or_append_left, get_or-set_same, get_or-set_other, length-set, set-set, set-get_or}
use Rattle.std.proofs.lemmas.List.Elements.{All-head, All-tail, All-set}
use Rattle.std.proofs.lemmas.List.Sums.{sum_by-cons, sum_by-append, sum_by_push}
use Rattle.std.proofs.lemmas.Option.{slice_get_within, slice_get-get_or, get_or_from_slice_get}
use Rattle.pp_line.specs.Types.{Entry, Event, Seen}
use Rattle.pp_numbers.specs.ChannelNo.{channel_index, names_channel, channel_places}
use Rattle.pp_channel.specs.Law.{IsPrefix}
use Rattle.pp_line.specs.LineLog.{event_entry, is_event, known_after, seen_on, IsWithin}
use Rattle.pp_line.specs.Merge.{IsTrueAt, IsTrueOf, logs_event, times_logged, Merges, no_opening}
use Rattle.pp_channel.specs.History.{history_on}

-- 1 for a number below the end, else 0
abbrev pub once_below : ℕ → ℕ → ℕ
once_below number end = cond (ltb number end) 1 0

pub once_inside : (number end : ℕ) → number < end → once_below number end ≡ 1
once_inside number end l = ap (λ b. cond b 1 0) (lt-ltb number end l)

pub once_past : (number end : ℕ) → end ≤ number → once_below number end ≡ 0
once_past number end l = ap (λ b. cond b 1 0) (le-ltb number end l)

pub once_most : (number end : ℕ) → once_below number end ≤ 1
once_most number end = ⊎_elim (λ (l : number < end). omega (arith, once_inside number end l)) (λ (l : end ≤ number). omega (arith, once_past number end l)) (cases_lt number end)

-- how often each event is told
abbrev pub TellsOnce : List (List Event) → List Entry → Type 0
TellsOnce histories log = (c number : ℕ) → times_logged c number log ≡ once_below number (length (history_on c histories))

pub tells_once : (histories : List (List Event)) (log : List Entry) → Merges no_opening histories log → TellsOnce histories log
tells_once histories log m c number =
    let end : ℕ = length (history_on c histories) in
    ⊎_elim (λ (l : number < end). m.once c number (omega arith) l ∙ sym (once_inside number end l)) (λ (l : end ≤ number). m.no_other c number (inr l) ∙ sym (once_past number end l)) (cases_lt number end)

pub merges_by : (histories : List (List Event)) (log : List Entry) → TellsOnce histories log → All (IsTrueOf histories) log → Merges no_opening histories log
merges_by histories log once true_of = record {
  once = λ c number _ l. once c number ∙ once_inside number (length (history_on c histories)) l;
  no_other = λ c number out. ⊎_elim (λ (l : number < 0). absurd (omega arith)) (λ l. once c number ∙ once_past number (length (history_on c histories)) l) out;
  begins = λ c. (history_on c histories, refl);
  entries_true = true_of;
}

-- one entry, counted
abbrev pub told_by : ℕ → ℕ → Entry → ℕ
told_by c number entry = cond (logs_event c number entry) 1 0

pub times_told-append : (c number : ℕ) (log more : List Entry) → times_logged c number (log ++ more) ≡ times_logged c number log + times_logged c number more
times_told-append c number log more = sum_by-append (told_by c number) log more

pub times_told_push : (c number : ℕ) (log : List Entry) (entry : Entry) → times_logged c number (log ++ entry ∷ []) ≡ times_logged c number log + told_by c number entry
times_told_push c number log entry = sum_by_push (told_by c number) log entry

pub told_not : (c number d n : ℕ) (e : Event) → (d ≢ c) ⊎ (n ≢ number) → told_by c number (event_entry d n e) ≡ 0
told_not c number d n e h = grind (arith, and_left, eqb, ne_eqb, and_right)

pub told_here : (c number d n : ℕ) (e : Event) → d ≡ c → n ≡ number → told_by c number (event_entry d n e) ≡ 1
told_here c number d n e p q = ap (λ b. cond b 1 0) (and_from (eqb d c) (eqb n number) (eq-eqb d c p) (eq-eqb n number q))

-- an event of another channel is not told
pub told_elsewhere : (c number d n : ℕ) (e : Event) → d ≢ c → told_by c number (event_entry d n e) ≡ 0
told_elsewhere c number d n e other = told_not c number d n e (inl other)

-- the next event of the channel is told once more
pub told_next : (c number d n : ℕ) (e : Event) → d ≡ c → once_below number (n + 1) ≡ once_below number n + told_by c number (event_entry d n e)
told_next c number d n e is = grind (arith, once_inside, once_past, told_here, told_not)

-- an event that is told lies below the number seen
told_within : (c number : ℕ) (seen : List ℕ) (d n : ℕ) (what : Seen) → (is_event what && (eqb d c) && (eqb n number)) ≡ true → known_after what n ≤ seen_on d seen → number < seen_on c seen
told_within c number seen d n what t l = grind (arith, and_parts, eqb-true, false≢true)

pub times_within : (c number : ℕ) (seen : List ℕ) (log : List Entry) → IsWithin seen log → 0 < times_logged c number log → number < seen_on c seen
times_within c number seen [] w l = absurd (omega arith)
times_within c number seen (entry ∷ log) w l =
    let P : Entry → Type 0 = λ x. known_after x.what x.number ≤ seen_on x.channel seen in
    let sum : times_logged c number (entry ∷ log) ≡ told_by c number entry + times_logged c number log = sum_by-cons (told_by c number) entry log in
    ⊎_elim (λ (t : logs_event c number entry ≡ true). told_within c number seen entry.channel entry.number entry.what t (All-head P entry log w))
    (λ (t : logs_event c number entry ≡ false). let none : told_by c number entry ≡ 0 = ap (λ b. cond b 1 0) t in times_within c number seen log (All-tail P entry log w) (omega arith)) (cases_Bool (logs_event c number entry))

-- where the histories grow
abbrev pub Grow : List (List Event) → List (List Event) → Type 0
Grow before after = (c : ℕ) → IsPrefix (history_on c before) (history_on c after)

slice_get_front : {A : Type 0} (front rest : List A) (n : ℕ) (x : A) → slice_get front n ≡ Some x → slice_get (front ++ rest) n ≡ Some x
slice_get_front front rest n x e =
    let l : n < length front = slice_get_within front n x e in
    let more = length-append front rest in
    slice_get-get_or (front ++ rest) n x (omega arith) ∙ ap (λ y. Some y) (get_or_append_left front rest x n l ∙ get_or_from_slice_get front n x x e)

pub slice_get_last : {A : Type 0} (front : List A) (x : A) → slice_get (front ++ x ∷ []) (length front) ≡ Some x
slice_get_last [] x = refl
slice_get_last (y ∷ front) x = slice_get_last front x

pub true_front : (front rest : List Event) (n : ℕ) (what : Seen) → IsTrueAt front n what → IsTrueAt (front ++ rest) n what
true_front front rest n what p = grind (arith, slice_get_front, length-append, take-append-le)

pub true_later : (before after : List (List Event)) → Grow before after → (entry : Entry) → IsTrueOf before entry → IsTrueOf after entry
true_later before after grow entry p =
    let g = grow entry.channel in
    subst (λ h. IsTrueAt h entry.number entry.what) g.1 (true_front (history_on entry.channel before) g.0 entry.number entry.what p)

-- the history of one channel has more events
pub with_more : List (List Event) → ℕ → List Event → List (List Event)
with_more histories c more = set histories (channel_index c) (history_on c histories ++ more)

pub more_is : (histories : List (List Event)) (c : ℕ) (more : List Event) → with_more histories c more ≡ set histories (channel_index c) (history_on c histories ++ more)
unfolding with_more
more_is histories c more = refl

pub more_here : (histories : List (List Event)) (c d : ℕ) (more : List Event) → channel_index c < length histories → d ≡ c → history_on d (with_more histories c more) ≡ history_on c histories ++ more
unfolding with_more
more_here histories c d more l is = ap (λ x. history_on x (set histories (channel_index c) (history_on c histories ++ more))) is ∙ get_or-set_same histories (channel_index c) (history_on c histories ++ more) [] l

pub same_elsewhere : (histories : List (List Event)) (c d : ℕ) (more : List Event) → IsTrue (names_channel c) → d ≢ c → history_on d (with_more histories c more) ≡ history_on d histories
unfolding with_more
same_elsewhere histories c d more names other = get_or-set_other histories (channel_index c) (channel_index d) (history_on c histories ++ more) [] (λ same. other (channel_places.one_place c d names same))

pub more_grow : (histories : List (List Event)) (c : ℕ) (more : List Event) → IsTrue (names_channel c) → channel_index c < length histories → Grow histories (with_more histories c more)
more_grow histories c more names l d = dite (ℕ_discrete d c)
    (λ is. (more, ap (λ x. history_on x histories ++ more) is ∙ sym (more_here histories c d more l is)))
    (λ other. ([], append-nil (history_on d histories) ∙ sym (same_elsewhere histories c d more names other)))

pub length-with_more : (histories : List (List Event)) (c : ℕ) (more : List Event) → length (with_more histories c more) ≡ length histories
unfolding with_more
length-with_more histories c more = length-set histories (channel_index c) (history_on c histories ++ more)

pub All-with_more : (P : List Event → Type 0) (histories : List (List Event)) (c : ℕ) (more : List Event) → All P histories → P (history_on c histories ++ more) → All P (with_more histories c more)
unfolding with_more
All-with_more P histories c more p q = All-set P histories (channel_index c) (history_on c histories ++ more) q p

pub put_before : (histories : List (List Event)) (c : ℕ) (more : List Event) → set (with_more histories c more) (channel_index c) (history_on c histories) ≡ histories
unfolding with_more
put_before histories c more = set-set histories (channel_index c) (history_on c histories ++ more) (history_on c histories) ∙ set-get_or histories (channel_index c) []
