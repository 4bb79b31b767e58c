-- What a try of a step keeps of what a worker has.
use Rattle.std.proofs.Common.{◌≡◌, ℕ, zero, suc, ◌+◌, ◌*◌, ◌<◌, ◌≤◌, true, false, List, [], ◌∷◌, ◌++◌, length, map, take, Option, None, Some, refl, sym, ap, ◌∙◌, subst, inl, inr, arith}
use Rattle.std.specs.Prelude.{◌⊎◌, IsTrue, slice_get}
use Rattle.std.specs.List.{cons_option, last_or, filter_map}
use Rattle.std.specs.Option.{option_map, option_or, option_to_list}
use Rattle.std.proofs.lemmas.Bool.{both_ways, eq-eqb}
use Rattle.std.proofs.lemmas.List.{append-nil, length-append, same_from_push}
use Rattle.pp_channel.proofs.AnswerLemmas.{shown_makes_none}
use Rattle.pp_numbers.proofs.LastElements.{last_or-push}
use Rattle.pp_line.specs.LineLog.{LogState, empty_log, appended, looked, with_seen, is_look_at, IsMonotone}
use Rattle.pp_channel.specs.Answer.{event_answered, flags_shown, seen_answered}
use Rattle.pp_runner.specs.Types.{Answer, ChanOp, Did, Entry, Event, Flags, LineView, Moved, Need, Reply, Saw, Seen}
use Rattle.pp_processor.proofs.ReplayLemmas.{acts_where_held, replayed-push, given_count-push, collected_along-push}
use Rattle.pp_processor.specs.NeedAndEffect.{need, processor_after, outcome, IsHeldAnswer}
use Rattle.pp_processor.specs.Processor.{Processor}
use Rattle.pp_processor.specs.Replay.{OfChannel, fits, replayed, given_count, collected_along, events_given, looks_and_events, contribution}
use Rattle.pp_runner.proofs.LogLemmas.{looked_at, BeginsWith, begins_with, events_done, events_in-push, sights_in-push, stands_done}
use Rattle.pp_runner.proofs.ReplyLemmas.{sight_of, reply_to_channel}
use Rattle.pp_runner.specs.WorkerReport.{OfEachAnswer, IsBySize, event_in, events_in, sights_in}
use Rattle.pp_numbers.specs.Subsequence.{IsSubsequence}
use Rattle.pp_numbers.proofs.Subsequences.{stands_more, stands_push}
use Rattle.pp_line.specs.LineState.{LineState}
use Rattle.pp_line.specs.Order.{entries_among, writes_among}
use Rattle.pp_runner.proofs.AccessLemmas.{entries_by, made_more, made_still, no_writes, numbered}
use Rattle.pp_runner.specs.Accesses.{accesses_by}
use Rattle.pp_runner.specs.WorkerState.{HasEntries, HasLooked, HasMade, IsAtWork, IsAnswered, IsNoted, IsUnused}
use Rattle.pp_runner.specs.End.{WasHeld, NeedsChannel}

-- what stands at a place of one more: what stood there, or the last
got_push : {X : Type 0} (xs : List X) (x y : X) (i : ℕ) → slice_get (xs ++ x ∷ []) i ≡ Some y → ((slice_get xs i ≡ Some y) × (take i (xs ++ x ∷ []) ≡ take i xs)) ⊎ ((x ≡ y) × (take i (xs ++ x ∷ []) ≡ xs))
got_push [] x y zero is = inr (cc, refl)
got_push [] x y (suc i) is = absurd cc
got_push (z ∷ xs) x y zero is = inl (is, refl)
got_push (z ∷ xs) x y (suc i) is = elim (got_push xs x y i is) [ inl old ↦ inl (old.0, ap (λ l. z ∷ l) old.1) | inr last ↦ inr (last.0, ap (λ l. z ∷ l) last.1) ]

-- what is true of each answer, and of one more
each_push : (P : Processor → Answer → Type 0) (load : Processor) (xs : List Answer) (x : Answer) → OfEachAnswer P load xs → P (replayed load xs) x →
    OfEachAnswer P load (xs ++ x ∷ [])
each_push P load xs x h p i y is =
    elim (got_push xs x y i is) [
      | inl old ↦ subst (λ (ys : List Answer). P (replayed load ys) y) (sym old.1) (h i y old.0)
      | inr last ↦ subst (λ (ys : List Answer). P (replayed load ys) y) (sym last.1) (subst (P (replayed load xs)) last.0 p)
    ]

-- the events among sights
abbrev events_among : List (OfChannel Seen) → List (OfChannel Event)
events_among ss = filter_map (λ s. event_in s.channel s.what) ss

among_event : (c : ℕ) (e : Option Event) →
    events_among (map (λ what. record { channel = c; what = what }) (option_to_list (option_map (λ e. Did e) e))) ≡ map (λ e. record { channel = c; what = e }) (option_to_list e)
among_event c None = refl
among_event c (Some e) = refl

among_shown : (c : ℕ) (operation : ChanOp) (reply : Reply) (shown : Option Flags) → flags_shown reply ≡ shown →
    events_among (map (λ what. record { channel = c; what = what }) (option_to_list (option_or (option_map (λ f. Saw f) shown) (option_map (λ e. Did e) (event_answered operation reply))))) ≡ contribution event_answered (Need.Channel c operation) (Answer.Channel reply)
among_shown c operation reply (Some f) shows = rw (shown_makes_none operation reply f shows) refl
among_shown c operation reply None shows = among_event c (event_answered operation reply)

among_seen : (c : ℕ) (operation : ChanOp) (reply : Reply) →
    events_among (contribution seen_answered (Need.Channel c operation) (Answer.Channel reply)) ≡ contribution event_answered (Need.Channel c operation) (Answer.Channel reply)
among_seen c operation reply = among_shown c operation reply (flags_shown reply) refl

among_sights : (n : Need) (x : Answer) → events_among (contribution seen_answered n x) ≡ contribution event_answered n x
among_sights (Need.Channel c operation) (Answer.Channel reply) = among_seen c operation reply
among_sights (Need.Channel c operation) Answer.Local = refl
among_sights (Need.Channel c operation) (Answer.Read word) = refl
among_sights (Need.Channel c operation) (Answer.Wrote written) = refl
among_sights Need.Nothing x = refl
among_sights Need.Local x = refl
among_sights (Need.Read a) x = refl
among_sights (Need.Write a w) x = refl

-- the events among the accesses of an answer
events_numbered : (number : ℕ) (ss : List (OfChannel Seen)) → events_in (numbered number ss) ≡ events_among ss
events_numbered number [] = refl
events_numbered number (s ∷ ss) = ap (λ more. cons_option (event_in s.channel s.what) more) (events_numbered number ss)

pub events_by : (number : ℕ) (n : Need) (x : Answer) → events_in (entries_among (accesses_by number n x)) ≡ contribution event_answered n x
events_by number n x = ap events_in (entries_by number n x) ∙ (events_numbered number (contribution seen_answered n x) ∙ among_sights n x)

-- a log after the sights of an answer, where the steps before it have these entries
record IsLogged (number : ℕ) (ss : List (OfChannel Seen)) (done : List Entry) (before after : LogState) : Type 0 where
  pub events : events_in after.entries ≡ events_in before.entries ++ events_among ss
  pub sights : (old : List (OfChannel Seen)) → IsSubsequence old (sights_in done) → IsSubsequence (old ++ ss) (sights_in after.entries)
  pub stand : (old : List Entry) → IsSubsequence old done → IsSubsequence (old ++ numbered number ss) after.entries
  pub few : length after.entries ≤ length done + 2 * length ss
  pub room : after.room + length after.entries ≡ before.room + length before.entries

-- where the log does not end with an entry that is to stay, it ends with a look at the channel of the only sight
record IsHeldAt (ss : List (OfChannel Seen)) (log : LogState) : Type 0 where
  pub channel : ℕ
  pub what : Seen
  pub only : ss ≡ record { channel = channel; what = what } ∷ []
  pub looked : IsTrue (is_look_at channel (last_or None log.entries))

-- an entry behind these, which have the events and all that stands in the entries of the steps before
logged_behind : (c number : ℕ) (what : Seen) (done base : List Entry) (before after : LogState) → after.entries ≡ base ++ record { channel = c; number = number; what = what } ∷ [] → events_in base ≡ events_in before.entries → length base ≤ length done + 1
    → ((old : List (OfChannel Seen)) → IsSubsequence old (sights_in done) → IsSubsequence old (sights_in base)) → ((old : List Entry) → IsSubsequence old done → IsSubsequence old base)
    → after.room + length after.entries ≡ before.room + length before.entries → IsLogged number (record { channel = c; what = what } ∷ []) done before after
logged_behind c number what done base before after entries same few sights stand room = grind (arith, events_in-push, sights_in-push, stands_push, length-append)

logged_did : (c number : ℕ) (what : Seen) (done : List Entry) (before after : LogState) → 1 ≤ before.room → BeginsWith done before → after ≡ appended before (record { channel = c; number = number; what = what })
    → IsLogged number (record { channel = c; what = what } ∷ []) done before after
logged_did c number what done before after room s is =
    logged_behind c number what done before.entries before after (ap (λ l. l.entries) is) refl s.few (λ old h. stands_done done before old s h)
    (λ old h. subst (IsSubsequence old) (sym s.is) (stands_more old done s.rest h))
    (omega (arith, ap (λ l. length l.entries) is, length-append before.entries (record { channel = c; number = number; what = what } ∷ []), ap (λ l. l.room) is))

logged_saw : (c number : ℕ) (what : Seen) (done : List Entry) (look : Option Entry) (before after : LogState) → 1 ≤ before.room → HasEntries done look before → BeginsWith done before
    → (before.kept ≡ false → IsTrue (is_look_at c (last_or None before.entries))) → after ≡ looked before (record { channel = c; number = number; what = what })
    → IsLogged number (record { channel = c; what = what } ∷ []) done before after
logged_saw c number what done look before after room b s held is =
    let l = looked_at done look before (record { channel = c; number = number; what = what }) b held in
    logged_behind c number what done done before after (ap (λ l. l.entries) is ∙ l.entries) (events_done done before s) (omega arith) (λ old h. h) (λ old h. h) (ap (λ l. l.room + length l.entries) is ∙ l.room room)

logged_as : (c number : ℕ) (what : Seen) (done : List Entry) (look : Option Entry) (before after : LogState) → 1 ≤ before.room → HasEntries done look before → BeginsWith done before
    → (before.kept ≡ false → IsTrue (is_look_at c (last_or None before.entries))) → after ≡ with_seen before c number (Some what)
    → IsLogged number (record { channel = c; what = what } ∷ []) done before after
logged_as c number (Did e) done look before after room b s held is = logged_did c number (Did e) done before after room s is
logged_as c number (Saw f) done look before after room b s held is = logged_saw c number (Saw f) done look before after room b s held is

none_held : (log : LogState) → IsHeldAt [] log → ⊥
none_held log h = let only = h.only in absurd cc

-- without a sight the log stays, and has no look that held the processor
logged_none : (number : ℕ) (done : List Entry) (look : Option Entry) (before after : LogState) → HasEntries done look before → (before.kept ≡ false → ⊥) → after ≡ before → IsLogged number [] done before after
logged_none number done None before after b held is = grind (arith, append-nil)
logged_none number done (Some look) before after b held is = absurd (held b.kept)

-- a single sight is at the channel at which the log ends with a look
held_at_channel : (c : ℕ) (what : Seen) (log : LogState) → IsHeldAt (record { channel = c; what = what } ∷ []) log → IsTrue (is_look_at c (last_or None log.entries))
held_at_channel c what log h = grind (arith, same_from_push)

logged : (number : ℕ) (ss : List (OfChannel Seen)) (done : List Entry) (look : Option Entry) (before after : LogState) → 1 ≤ before.room → HasEntries done look before → (before.kept ≡ false → IsHeldAt ss before) → IsNoted number ss before after
    → IsLogged number ss done before after
logged number [] done look before after room b held is = logged_none number done look before after b (λ k. none_held before (held k)) is
logged number (s ∷ []) done look before after room b held is =
    let at : before.kept ≡ false → IsTrue (is_look_at s.channel (last_or None before.entries)) = λ k. held_at_channel s.channel s.what before (held k) in
    logged_as s.channel number s.what done look before after room b (begins_with done look before b (λ k. (s.channel, at k))) at is
logged number (s ∷ t ∷ more) done look before after room b held is = absurd is

-- where the processor was held and the answer fits, the only sight is at the channel at which it was held
held_sight : (pp : Processor) (x : Answer) (log : LogState) → WasHeld pp log.entries → fits (need pp) x ≡ true → IsHeldAt (contribution seen_answered (need pp) x) log
held_sight pp x log h fit = grind (arith, reply_to_channel, sight_of)

-- an answer that fits is one event or one look at most
one_sight : (n : Need) (x : Answer) → fits n x ≡ true → length (contribution seen_answered n x) ≤ 1
one_sight Need.Nothing x fit = omega arith
one_sight Need.Local x fit = omega arith
one_sight (Need.Channel c operation) x fit = grind (arith, reply_to_channel, sight_of)
one_sight (Need.Read a) x fit = omega arith
one_sight (Need.Write a w) x fit = omega arith

-- the log of a worker begins with the entries of its steps
pub work_begun : {load pp : Processor} {size steps : ℕ} {xs : List Answer} {line : LineState} → (work : IsAtWork load size steps pp xs line) → BeginsWith work.done line.log
work_begun {line = line} work = begins_with work.done work.look line.log work.has (λ k. ((work.held k).channel, (work.held k).looked))

-- how much room a worker with steps left has
pub room_left : (load : Processor) (size steps : ℕ) (pp : Processor) (xs : List Answer) (line : LineState) → IsAtWork load size steps pp xs line → length xs < steps → 1 ≤ line.log.room
room_left load size steps pp xs line work fewer =
    let s = work_begun work in
    omega (arith, s.few, work.few_entries, work.few_sights, work.room)

true_kept : (kept after : LogState) → kept ≡ record after { kept = true } → kept.kept ≡ false → ⊥
true_kept kept after is k = let e : kept.kept ≡ true = ap (λ l. l.kept) is in cc

-- a step that moved the processor
pub work_moved : (load : Processor) (size steps : ℕ) (pp new : Processor) (xs : List Answer) (x : Answer) (before after kept : LineState) → IsAtWork load size steps pp xs before →
    length xs < steps → IsAnswered size (need pp) x before after → outcome pp x ≡ Moved → new ≡ processor_after pp x → kept ≡ record after { log = record after.log { kept = true } } →
    IsAtWork load size steps new (xs ++ x ∷ []) kept
work_moved load size steps pp new xs x before after kept work fewer told moved new_is kept_is =
    let same : pp ≡ replayed load xs = work.pp_is in
    let fit : fits (need (replayed load xs)) x ≡ true = subst (λ (q : Processor). fits (need q) x ≡ true) same told.fits in
    let room : 1 ≤ before.log.room = room_left load size steps pp xs before work fewer in
    let log = logged told.number (contribution seen_answered (need pp) x) work.done work.look before.log after.log room work.has (λ k. held_sight pp x before.log (work.held k) told.fits) told.noted in
    let made = made_more load pp size xs x work.done after.log.entries before after work.made told same work.all_given (λ old h. log.stand old h) in
    let log_is : kept.log ≡ record after.log { kept = true } = ap (λ l. l.log) kept_is in
    let n : length (xs ++ x ∷ []) ≡ length xs + 1 = length-append xs (x ∷ []) in
    let more : looks_and_events load (xs ++ x ∷ []) ≡ looks_and_events load xs ++ contribution seen_answered (need pp) x =
    collected_along-push seen_answered xs load x work.all_given fit ∙ ap (λ q. looks_and_events load xs ++ contribution seen_answered (need q) x) (sym same) in
    let count : length (looks_and_events load (xs ++ x ∷ [])) ≡ length (looks_and_events load xs) + length (contribution seen_answered (need pp) x) =
    ap length more ∙ length-append (looks_and_events load xs) (contribution seen_answered (need pp) x) in record {
      pp_is = new_is ∙ (ap (λ q. processor_after q x) same ∙ sym (replayed-push xs load x work.all_given fit));
      all_given = given_count-push xs load x work.all_given fit;
      all_moved = each_push (λ q y. outcome q y ≡ Moved) load xs x work.all_moved (ap (λ q. outcome q x) (sym same) ∙ moved);
      by_size = each_push (λ q y. IsBySize size (need q) y) load xs x work.by_size (subst (λ (q : Processor). IsBySize size (need q) x) same told.by_size);
      done = after.log.entries;
      look = None;
      has = record { all = ap (λ l. l.entries) log_is ∙ sym (append-nil after.log.entries); kept = ap (λ l. l.kept) log_is };
      made = subst (λ (v : LineView). HasMade load (xs ++ x ∷ []) after.log.entries v) (sym (ap (λ l. l.view) kept_is)) made;
      events = ap (λ l. events_in l.entries) log_is ∙ (log.events ∙ ((λ i. work.events i ++ among_sights (need pp) x i) ∙ (ap (λ q. events_given load xs ++ contribution event_answered (need q) x) same ∙ sym (collected_along-push event_answered xs load x work.all_given fit))));
      sights = subst (λ (ss : List (OfChannel Seen)). IsSubsequence ss (sights_in after.log.entries)) (sym more) (log.sights (looks_and_events load xs) work.sights);
      monotone = subst (λ (l : List Entry). IsMonotone l) (sym (ap (λ l. l.entries) log_is)) (told.monotone work.monotone);
      few_entries = omega (arith, log.few, work.few_entries, count);
      few_sights = omega (arith, work.few_sights, count, one_sight (need pp) x told.fits, n);
      held = λ k. absurd (true_kept kept.log after.log log_is k);
      room = ap (λ l. l.room + length l.entries) log_is ∙ (log.room ∙ work.room);
    }

-- a held answer is a look at the channel of the operation, which does more than look
record IsHold (pp : Processor) (x : Answer) : Type 0 where
  pub channel : ℕ
  pub needs : NeedsChannel (need pp) channel
  pub flags : Flags
  pub only : contribution seen_answered (need pp) x ≡ record { channel = channel; what = Saw flags } ∷ []

hold_of : (n : Need) (pp : Processor) (f : Flags) → need pp ≡ n → fits n (Answer.Channel (Reply.Held f)) ≡ true → IsHold pp (Answer.Channel (Reply.Held f))
hold_of (Need.Channel c operation) pp f n fit = record { channel = c; needs = record { operation = operation; is = n; acts = acts_where_held operation f fit }; flags = f; only = rw n refl }
hold_of Need.Nothing pp f n fit = absurd cc
hold_of Need.Local pp f n fit = absurd cc
hold_of (Need.Read a) pp f n fit = absurd cc
hold_of (Need.Write a w) pp f n fit = absurd cc

hold : (pp : Processor) (x : Answer) → IsHeldAnswer x → fits (need pp) x ≡ true → IsHold pp x
hold pp x held fit = grind (arith, hold_of)

-- a try at which the processor was held
pub record IsHeldAtWork (load : Processor) (size steps : ℕ) (new : Processor) (xs : List Answer) (after : LineState) : Type 0 where
  pub work : IsAtWork load size steps new xs after
  pub was : WasHeld new after.log.entries

pub work_held : (load : Processor) (size steps : ℕ) (pp new : Processor) (xs : List Answer) (x : Answer) (before after : LineState) → IsAtWork load size steps pp xs before →
    length xs < steps → IsAnswered size (need pp) x before after → IsHeldAnswer x → new ≡ pp → IsHeldAtWork load size steps new xs after
work_held load size steps pp new xs x before after work fewer told held new_is =
    let room : 1 ≤ before.log.room = room_left load size steps pp xs before work fewer in
    let h = hold pp x held told.fits in
    let noted : IsNoted told.number (record { channel = h.channel; what = Saw h.flags } ∷ []) before.log after.log = subst (λ (ss : List (OfChannel Seen)). IsNoted told.number ss before.log after.log) h.only told.noted in
    let entry : Entry = record { channel = h.channel; number = told.number; what = Saw h.flags } in
    let before_held : before.log.kept ≡ false → IsTrue (is_look_at h.channel (last_or None before.log.entries)) =
    λ k. held_at_channel h.channel (Saw h.flags) before.log (subst (λ (ss : List (OfChannel Seen)). IsHeldAt ss before.log) h.only (held_sight pp x before.log (work.held k) told.fits)) in
    let look = looked_at work.done work.look before.log entry work.has before_held in
    let entries : after.log.entries ≡ work.done ++ entry ∷ [] = ap (λ l. l.entries) noted ∙ look.entries in
    let log = logged_as h.channel told.number (Saw h.flags) work.done work.look before.log after.log room work.has (work_begun work) before_held noted in
    let last : last_or None after.log.entries ≡ Some entry = ap (last_or None) entries ∙ last_or-push None work.done entry in
    let was : WasHeld pp after.log.entries = record { channel = h.channel; needs = h.needs; looked = ap (is_look_at h.channel) last ∙ eq-eqb h.channel h.channel refl } in
    let new_was : WasHeld new after.log.entries = subst (λ (q : Processor). WasHeld q after.log.entries) (sym new_is) was in
    let none : writes_among (accesses_by told.number (need pp) x) ≡ [] = ap (λ n. writes_among (accesses_by told.number n x)) h.needs.is ∙ no_writes told.number h.channel h.needs.operation x in
    let looked : HasLooked before after = record {
      more = told.more;
      program_orders = told.program_orders;
      written = told.written ∙ (ap (λ ws. before.view.written ++ ws) none ∙ append-nil before.view.written);
    } in
    let same : IsAtWork load size steps new xs after = record {
      pp_is = new_is ∙ work.pp_is;
      all_given = work.all_given;
      all_moved = work.all_moved;
      by_size = work.by_size;
      done = work.done;
      look = Some entry;
      has = record { all = entries; kept = ap (λ l. l.kept) noted ∙ look.kept };
      made = made_still load xs work.done before after work.made looked;
      events = log.events ∙ (append-nil (events_in before.log.entries) ∙ work.events);
      sights = work.sights;
      monotone = told.monotone work.monotone;
      few_entries = work.few_entries;
      few_sights = work.few_sights;
      held = λ k. new_was;
      room = log.room ∙ work.room;
    } in
    record { work = same; was = new_was }

-- a try that found its channel worn
pub work_worn : (load : Processor) (size steps : ℕ) (pp : Processor) (xs : List Answer) (before after : LineState) → IsAtWork load size steps pp xs before → after.log ≡ before.log → HasLooked before after → IsAtWork load size steps pp xs after
work_worn load size steps pp xs before after work same looked = grind (arith, made_still)

-- a worker before its first step
pub work_begins : (load pp : Processor) (size steps : ℕ) (xs : List Answer) (line : LineState) → pp ≡ load → xs ≡ [] → IsUnused size steps line → IsAtWork load size steps pp xs line
unfolding replayed given_count collected_along
work_begins load pp size steps xs line pp_is none unused =
    let is : line.log ≡ empty_log (2 * steps + 1) = unused.log in
    let entries : line.log.entries ≡ [] = ap (λ l. l.entries) is in record {
      pp_is = rw none pp_is;
      all_given = rw none refl;
      all_moved = rw none (λ i x e. absurd cc);
      by_size = rw none (λ i x e. absurd cc);
      done = [];
      look = None;
      has = record { all = entries; kept = ap (λ l. l.kept) is };
      made = record { accesses = []; given = rw none refl; program_order = []; only = unused.program_orders; accessed = tt; logged = tt; written = unused.written };
      events = rw (none, entries) refl;
      sights = rw none tt;
      monotone = rw entries (λ i j d below within. absurd (omega arith));
      few_entries = omega arith;
      few_sights = rw none (omega arith);
      held = λ k. absurd (both_ways line.log.kept k (ap (λ l. l.kept) is));
      room = omega (arith, ap length entries, ap (λ l. l.room) is);
    }
