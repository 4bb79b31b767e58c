-- A report of threads is what one list of steps leaves.
use mathlib.Core.List.{append-eq-nil_iff}
use Rattle.std.proofs.Common.{◌≡◌, ℕ, zero, suc, ◌+◌, ◌<◌, ◌≤◌, Bool, true, cond, List, [], ◌∷◌, ◌++◌, length, take, drop, get_or, map, refl, sym, ap, ◌∙◌, subst, inl, inr, ⊎_elim, arith}
use Rattle.std.specs.Prelude.{◌==◌, slice_get, Some, IsTrue, All}
use Rattle.std.specs.List.{cons_option, flat_map, range_with_len, sum_by}
use Rattle.std.proofs.lemmas.Bool.{cases_lt}
use Rattle.std.proofs.lemmas.List.{append-nil, ext_get_or, get_or_past, length-take-le, take-append-drop, length-map}
use Rattle.std.proofs.lemmas.List.Elements.{All-cons, All-head, All-nil, All-tail, filter_map-append}
use Rattle.std.proofs.lemmas.Option.{slice_get_within}
use Rattle.std.proofs.lemmas.List.Sums.{sum_by-append, sum_by-cons}
use Rattle.pp_numbers.specs.Subsequence.{IsSubsequence}
use Rattle.pp_numbers.specs.ChannelNo.{channel_count, channel_index, channel_number, names_channel, channel_places}
use Rattle.pp_channel.specs.History.{IsLawful, history_on}
use Rattle.pp_line.specs.LineLog.{is_event}
use Rattle.pp_channel.specs.Law.{IsPrefix}
use Rattle.pp_line.specs.Order.{entries_among, times, writes_among}
use Rattle.pp_report.specs.Types.{Access, Answer, Entry, Event, Moved, OnChannel, Profile, Read, Report, Seen, Worker, Write}
use Rattle.pp_line.proofs.OrderLemmas.{entries_more}
use Rattle.pp_line.specs.Merge.{logs_event, times_logged}
use Rattle.pp_channel.proofs.EachHistory.{lawful_on}
use Rattle.pp_line.proofs.ListFacts.{count_by-parts}
use Rattle.pp_line.proofs.MergeLemmas.{told_by}
use Rattle.pp_machine.specs.Headline.{opening_history}
use Rattle.pp_machine.specs.MachineState.{MachineState, history_of}
use Rattle.pp_processor.specs.NeedAndEffect.{need, outcome, processor_after}
use Rattle.pp_processor.specs.Processor.{Processor}
use Rattle.pp_numbers.specs.Profile.{processors_in}
use Rattle.pp_numbers.proofs.ProfileLemmas.{most_processors}
use Rattle.pp_machine.specs.Run.{run}
use Rattle.pp_processor.specs.Replay.{OfChannel, fits, replayed, collected_along, events_given}
use Rattle.pp_processor.proofs.ReplayLemmas.{Gives, Gives-counted, Gives-to}
use Rattle.pp_runner.proofs.WorkerStateLemmas.{events_by}
use Rattle.pp_runner.specs.Accesses.{AreAccessesOf, HasAccessed, HaveAccessed}
use Rattle.pp_numbers.specs.Limits.{RunLimits}
use Rattle.pp_runner.specs.Report.{IsReportOf}
use Rattle.pp_runner.specs.WorkerReport.{OfEachAnswer, AllMoved, AllBySize, IsBySize, AreWorkers, IsWorker, event_in, events_in}
use Rattle.pp_report.specs.Serial.{HasNotRun, IsSerialRunOf}
use Rattle.pp_report.proofs.MachineLemmas.{Past, Stands, AllMove, all_left}
use Rattle.pp_machine.specs.MachineStep.{stepped, step_outcome}
use Rattle.pp_report.proofs.ServeLemmas.{HasNoneLeft, event_times, tells_event, tells_write, times_left, sum_stands, NumberedFrom, Ready, Once, Written, serve}
use Rattle.pp_report.proofs.WorkingLemmas.{Working, Does, all_of, left_cons}

-- an answer, and those behind it
each_first : (P : Processor → Answer → Type 0) (load : Processor) (x : Answer) (xs : List Answer) → OfEachAnswer P load (x ∷ xs) → P load x
unfolding replayed
each_first P load x xs h = h 0 x refl

each_rest : (P : Processor → Answer → Type 0) (load : Processor) (x : Answer) (xs : List Answer) → fits (need load) x ≡ true → OfEachAnswer P load (x ∷ xs) → OfEachAnswer P (processor_after load x) xs
unfolding replayed
each_rest P load x xs fit h = λ i y at.
    let same : replayed load (take (suc i) (x ∷ xs)) ≡ replayed (processor_after load x) (take i xs) = rw fit refl in
    subst (λ (q : Processor). P q y) same (h (suc i) y at)

-- a worker's answers, with the accesses that they made
does : (size : ℕ) (xs : List Answer) (pp after : Processor) (made : List Access) → Gives pp xs after → AllMoved pp xs → AllBySize size pp xs → AreAccessesOf pp xs made → Does size pp xs made after
does size [] pp after made gives moved by_size are = (are, gives)
does size (x ∷ xs) pp after made gives moved by_size are =
    let S : Processor → Answer → Type 0 = λ q y. IsBySize size (need q) y in
    let M : Processor → Answer → Type 0 = λ q y. outcome q y ≡ Moved in (
      record { fit = gives.0; moved = each_first M pp x xs moved; by_size = each_first S pp x xs by_size },
      (are.0, are.1, are.2, does size xs (processor_after pp x) after are.1 gives.1 (each_rest M pp x xs gives.0 moved) (each_rest S pp x xs gives.0 by_size) are.3),
    )

-- the events among accesses are those that the answers made
did_along : (xs : List Answer) (pp after : Processor) (made : List Access) → Gives pp xs after → AreAccessesOf pp xs made → events_in (entries_among made) ≡ events_given pp xs
unfolding collected_along
did_along [] pp after made gives are = grind arith
did_along (x ∷ xs) pp after made gives are = grind (arith, entries_more, filter_map-append, events_by, did_along xs (processor_after pp x) after are.1 gives.1 are.3)

-- entries that stand in a log and tell as many events tell each event as often
weight : Entry → ℕ
weight entry = cond (is_event entry.what) 1 0

weighed : (c : ℕ) (what : Seen) (more : List (OfChannel Event)) → length (cons_option (event_in c what) more) ≡ cond (is_event what) 1 0 + length more
weighed c what more = grind arith

count_events : (log : List Entry) → length (events_in log) ≡ sum_by weight log
unfolding weight
count_events [] = refl
count_events (entry ∷ log) = omega (arith, weighed entry.channel entry.what (events_in log), count_events log, sum_by-cons (λ (x : Entry). cond (is_event x.what) 1 0) entry log)

told_weight : (c number : ℕ) (entry : Entry) → weight entry ≡ 0 → told_by c number entry ≡ 0
unfolding weight
told_weight c number entry none = grind arith

times_weight : (c number : ℕ) (log : List Entry) → sum_by weight log ≡ 0 → times_logged c number log ≡ 0
times_weight c number [] none = refl
times_weight c number (entry ∷ log) none =
    let sum = sum_by-cons weight entry log in
    let here = told_weight c number entry (omega (arith, sum, none)) in
    let rest = times_weight c number log (omega (arith, sum, none)) in
    omega (arith, sum_by-cons (told_by c number) entry log, here, rest)

times_same : (c number : ℕ) (xs ys : List Entry) → IsSubsequence xs ys → sum_by weight ys ≤ sum_by weight xs → times_logged c number xs ≡ times_logged c number ys
times_same c number [] ys h most = sym (times_weight c number ys (omega (arith, most)))
times_same c number (x ∷ xs) [] h most = absurd h
times_same c number (x ∷ xs) (y ∷ ys) h most =
    let left = sum_by-cons weight x xs in
    let right = sum_by-cons weight y ys in
    elim h [
      | inl p ↦
          let same : weight x ≡ weight y = ap weight p.0 in
          let rest = times_same c number xs ys p.1 (omega (arith, left, right, same, most)) in
          sum_by-cons (told_by c number) x xs ∙ ((λ j. told_by c number (p.0 j) + rest j) ∙ sym (sum_by-cons (told_by c number) y ys))
      | inr q ↦
          let less = sum_stands weight (x ∷ xs) ys q in
          let none = told_weight c number y (omega (arith, less, most, right)) in
          let rest = times_same c number (x ∷ xs) ys q (omega (arith, most, right)) in
          omega (arith, rest, none, sum_by-cons (told_by c number) y ys)
    ]

-- how often writes among accesses have a number
write_times : (n : ℕ) (xs : List Access) → sum_by (tells_write n) xs ≡ times n (writes_among xs)
write_times n [] = refl
write_times n (OnChannel entry ∷ xs) = omega (arith, sum_by-cons (tells_write n) (OnChannel entry) xs, write_times n xs)
write_times n (Read a w ∷ xs) = omega (arith, sum_by-cons (tells_write n) (Read a w) xs, write_times n xs)
write_times n (Write a w k ∷ xs) =
    sum_by-cons (tells_write n) (Write a w k) xs ∙ (ap (λ m. tells_write n (Write a w k) + m) (write_times n xs) ∙ sym (sum_by-cons (λ m. cond (m == n) 1 0) k (writes_among xs)))

times_more : (n : ℕ) (xs ys : List ℕ) → times n (xs ++ ys) ≡ times n xs + times n ys
times_more n xs ys = sum_by-append (λ m. cond (m == n) 1 0) xs ys

numbered_from : (k : ℕ) (os : List Access) → writes_among os ≡ range_with_len k (length (writes_among os)) → NumberedFrom k os
numbered_from k [] is = tt
numbered_from k (OnChannel entry ∷ os) is = numbered_from k os is
numbered_from k (Read a w ∷ os) is = numbered_from k os is
numbered_from k (Write a w n ∷ os) is =
    let first : n ≡ k = cc in
    let rest : writes_among os ≡ range_with_len (k + 1) (length (writes_among os)) = cc in
    (first, numbered_from (k + 1) os rest)

-- the workers of a report, with all their answers left
pub record AreWorkings {A : Type 0} (size : ℕ) (p : Profile) (others loads : List Processor) (order : List Access) (ends : List (Worker A)) (accesses : List (List Access)) : Type 0 where
  pub ws : List Working
  pub processors : map (λ w. w.pp) ws ≡ loads
  pub afters : map (λ w. w.after) ws ≡ map (λ w. w.pp) ends
  pub ready : All (Ready size p others order) ws
  pub counts : (c number : ℕ) → sum_by (times_left (tells_event c number)) ws ≡ sum_by (λ w. times_logged c number w.log.items) ends
  pub writes : (n : ℕ) → sum_by (times_left (tells_write n)) ws ≡ times n (flat_map writes_among accesses)
  pub steps : all_left (all_of others ws) ≡ sum_by (λ w. length w.answers.items) ends
  pub answers : map (λ w. w.answers) ws ≡ map (λ w. w.answers.items) ends

one_gives : {A : Type 0} (load : Processor) (size steps : ℕ) (end : Worker A) → IsWorker load size steps end → Gives load end.answers.items end.pp
one_gives load size steps end is = Gives-to load (replayed load end.answers.items) end.pp end.answers.items (Gives-counted end.answers.items load is.all_given) (sym is.pp)

-- each event stands among a worker's accesses as often as in its log
one_count : {A : Type 0} (load : Processor) (size steps : ℕ) (order : List Access) (end : Worker A) (made : List Access) → IsWorker load size steps end
    → HasAccessed load order end made → (c number : ℕ) → sum_by (tells_event c number) made ≡ times_logged c number end.log.items
one_count load size steps order end made is has c number =
    let log = end.log.items in
    let own = entries_among made in
    let events : events_in log ≡ events_in own = is.events ∙ sym (did_along end.answers.items load end.pp made (one_gives load size steps end is) has.given) in
    let many : sum_by weight log ≡ sum_by weight own = sym (count_events log) ∙ (ap length events ∙ count_events own) in
    event_times c number made ∙ times_same c number own log has.logged (omega (arith, many))

workings : {A : Type 0} (p : Profile) (others : List Processor) (size steps : ℕ) (order : List Access) (loads : List Processor) (ends : List (Worker A)) (accesses : List (List Access)) → AreWorkers loads size steps ends
    → HaveAccessed loads order ends accesses → AreWorkings size p others loads order ends accesses
workings p others size steps order [] [] [] all have = record { ws = []; processors = refl; afters = refl; ready = All-nil (Ready size p others order); counts = λ c number. refl; writes = λ n. refl; steps = refl; answers = refl }
workings p others size steps order [] [] (made ∷ accesses) all have = absurd have
workings p others size steps order [] (end ∷ ends) accesses all have = absurd all
workings p others size steps order (load ∷ loads) [] accesses all have = absurd all
workings p others size steps order (load ∷ loads) (end ∷ ends) [] all have = absurd have
workings {A} p others size steps order (load ∷ loads) (end ∷ ends) (made ∷ accesses) all have =
    let xs = end.answers.items in
    let now : Working = record { pp = load; answers = xs; accesses = made; after = end.pp } in
    let ready : Ready size p others order now = record { working = does size xs load end.pp made (one_gives load size steps end all.0) all.0.all_moved all.0.by_size have.0.given; stands = have.0.in_order } in
    let more = workings p others size steps order loads ends accesses all.1 have.1 in record {
      ws = now ∷ more.ws;
      processors = ap (λ pps. load ∷ pps) more.processors;
      afters = ap (λ pps. end.pp ∷ pps) more.afters;
      answers = ap (λ l. xs ∷ l) more.answers;
      ready = All-cons (Ready size p others order) now more.ws ready more.ready;
      steps = left_cons others now more.ws ∙ (ap (λ n. length xs + n) more.steps ∙ sym (sum_by-cons (λ (w : Worker A). length w.answers.items) end ends));
      counts = λ c number. sum_by-cons (times_left (tells_event c number)) now more.ws
          ∙ ((λ j. one_count load size steps order end made all.0 have.0 c number j + more.counts c number j) ∙ sym (sum_by-cons (λ (w : Worker A). times_logged c number w.log.items) end ends));
      writes = λ n. sum_by-cons (times_left (tells_write n)) now more.ws ∙ ((λ j. write_times n made j + more.writes n j) ∙ sym (times_more n (writes_among made) (flat_map writes_among accesses)));
    }

-- where a machine starts
started : (c : ℕ) (m : MachineState) (channels : List (List Event)) → HasNotRun m → length channels ≡ channel_count → IsPrefix (opening_history c m) (history_on c channels) → history_of c m ≡ opening_history c m
started c m channels new each begins =
    ⊎_elim
    (λ (below : channel_index c < channel_count). new.histories c (channel_places.named_below c below))
    (λ (past : channel_count ≤ channel_index c).
    let none = get_or_past channels (channel_index c) [] (omega (arith, past, each)) in
    get_or_past m.histories (channel_index c) [] (omega (arith, past, new.channels)) ∙ sym (append-eq-nil_iff.0 (begins.1 ∙ none)).0)
    (cases_lt (channel_index c) channel_count)

-- each step of a list moves its processor, by place
moved_at : (m : MachineState) (ns : List ℕ) → AllMove m ns → (i n : ℕ) → slice_get ns i ≡ Some n → step_outcome n (run (take i ns) m) ≡ Moved
moved_at m [] all i n at = absurd cc
moved_at m (k ∷ ns) all zero n at = let same : k ≡ n = cc in subst (λ (j : ℕ). step_outcome j m ≡ Moved) same all.0
moved_at m (k ∷ ns) all (suc i) n at = moved_at (stepped k m) ns all.1 i n at

-- the answers that a worker of a report got, and those of a worker with none left
got_at : {A : Type 0} (ends : List (Worker A)) (place : ℕ) (w : Worker A) → slice_get ends place ≡ Some w → get_or (map (λ (w : Worker A). w.answers.items) ends) place [] ≡ w.answers.items
got_at [] place w at = absurd cc
got_at {A} (end ∷ ends) zero w at = let same : end ≡ w = cc in ap (λ (w : Worker A). w.answers.items) same
got_at (end ∷ ends) (suc place) w at = got_at ends place w at

none_at : (ws : List Working) → All HasNoneLeft ws → (place : ℕ) → get_or (map (λ (w : Working). w.answers) ws) place [] ≡ []
none_at [] none place = refl
none_at (w ∷ ws) none zero = All-head HasNoneLeft w ws none
none_at (w ∷ ws) none (suc place) = none_at ws (All-tail HasNoneLeft w ws none) place

none_left : (others : List Processor) (ws : List Working) → All HasNoneLeft ws → all_left (all_of others ws) ≡ 0
none_left others [] none = refl
none_left others (w ∷ ws) none = omega (arith, left_cons others w ws, ap length (All-head HasNoneLeft w ws none), none_left others ws (All-tail HasNoneLeft w ws none))

same_histories : (hs gs : List (List Event)) → length hs ≡ channel_count → length gs ≡ channel_count → ((c : ℕ) → history_on c hs ≡ history_on c gs) → hs ≡ gs
same_histories hs gs many each same = ext_get_or [] hs gs (many ∙ sym each) (λ k inside.
    let at : channel_index (channel_number k) ≡ k = channel_places.place_of_number k (omega (arith, inside, many)) in
    subst (λ (i : ℕ). get_or hs i [] ≡ get_or gs i []) at (same (channel_number k)))

pub report_leaves : {A : Type 0} (limits : RunLimits) (m : MachineState) (report : Report A) → HasNotRun m → (said : IsReportOf limits m report) → (ns : List ℕ) × IsSerialRunOf ns m report said.order
report_leaves {A} limits m report new said =
    let p = m.profile in
    let n = processors_in p in
    let size = length m.central in
    let others = drop n m.processors in
    let ends = report.ends.items in
    let opening : ℕ → List Event = λ c. opening_history c m in
    let history : ℕ → List Event = λ c. history_on c report.channels in
    let begun : Past = record { happened = opening; words = m.central } in
    let named : (c : ℕ) → 0 < length (history c) → IsTrue (names_channel c) = λ c some.
    ⊎_elim
    (λ (below : channel_index c < channel_count). channel_places.named_below c below)
    (λ (past : channel_count ≤ channel_index c). let empty = ap length (get_or_past report.channels (channel_index c) [] (omega (arith, past, said.each_channel))) in absurd (omega (arith, empty, some)))
    (cases_lt (channel_index c) channel_count) in
    let lawful : (c : ℕ) → IsLawful (history c) = λ c. lawful_on report.channels c said.lawful in
    let w = workings p others size limits.steps said.order (take n m.processors) ends said.accesses said.workers said.accessed in
    let most = most_processors p in
    let count : length w.ws ≡ n = sym (length-map w.ws (λ (v : Working). v.pp)) ∙ (ap length w.processors ∙ length-take-le n m.processors (omega (arith, most, new.processors))) in
    let once : Once size p others history lawful named w.ws opening = λ c number later inside. w.counts c number ∙ (sym (count_by-parts (λ (v : Worker A). v.log.items) (logs_event c number) ends) ∙ said.merged.once c number later inside) in
    let written : Written size p others history lawful named w.ws 0 said.order = λ k least. w.writes k ∙ (said.made.each k ∙ sym (write_times k said.order)) in
    let finished = serve size p others history lawful named said.order w.ws begun 0 (omega (arith, count)) w.ready said.total.legal said.total.each_history once said.finds (numbered_from 0 said.order said.made.numbered) written in
    let start : Stands size m (all_of others w.ws).pps begun = record {
      processors = sym (take-append-drop n m.processors) ∙ ap (λ pps. pps ++ others) (sym w.processors);
      channels = new.channels;
      histories = λ c. started c m report.channels new said.each_channel (said.merged.begins c);
      central = refl;
      sized = refl;
    } in
    let led = finished.leads m start in (
      led.0,
      record {
        named = led.1.named;
        steps = omega (arith, led.1.count, none_left others finished.now finished.none, w.steps);
        moved = moved_at m led.0 led.1.moved;
        answers = grind (arith, append-nil, none_at, slice_get_within, got_at);
        leads = grind (arith, same_histories);
      },
    )
