-- The log of a line goes with its view, through its steps and its calls.
use Rattle.std.proofs.Common.{◌≡◌, ◌≢◌, ℕ, zero, suc, ◌+◌, ◌-◌, ◌<◌, ◌≤◌, true, List, [], ◌∷◌, ◌++◌, length, take, drop, get_or, refl, sym, ap, ◌∙◌, subst, arith}
use Rattle.std.specs.Prelude.{All, Contains, slice_set, Option, Some, None, IfSome, IfNone, MatchBool, Bool, false}
use Rattle.std.specs.List.{flat_map}
use Rattle.std.proofs.lemmas.List.{length-set, length-append, get_or-set_same, take-append-drop}
use Rattle.std.proofs.lemmas.List.Elements.{All-append, All-push, Contains-append_left, Contains-append_right, Contains-push}
use Rattle.std.proofs.lemmas.Bool.{MatchBool-at_true, eq-eqb, ne_eqb}
use Rattle.pp_line.specs.Types.{Access, Entry, Event, FoundWord, LineView, OnChannel, Read, Write}
use Rattle.pp_numbers.specs.ChannelNo.{channel_count, channel_index, channel_places}
use Rattle.pp_line.specs.ChannelWord.{number_in, flags_in}
use Rattle.pp_line.specs.LineLog.{LogState, looked, event_entry, look_entry, known_after, seen_on, ends_in_look_at}
use Rattle.pp_line.specs.LineState.{LineState}
use Rattle.pp_line.specs.LineSteps.{IsBacked, IsLogOf, IsLoad, IsWonExchange, IsLostExchange, IsExchange}
use Rattle.pp_line.specs.LineView.{greater_of_each, joined_view, finds, makes, look_by, reads, writes}
use Rattle.pp_line.specs.Order.{IsDrawnFrom, entries_among, extended}
use Rattle.pp_line.specs.Merge.{times_logged}
use Rattle.pp_line.proofs.LineKnowledge.{not_older_told, told_looked, all_looked, looked_either, last_replaced}
use Rattle.pp_line.proofs.OrderLemmas.{length-extended, drawn_extended, stands_with_last, stands_joined}
use Rattle.pp_numbers.proofs.Subsequences.{stands_front}
use Rattle.pp_line.proofs.MergeLemmas.{told_by, times_told-append, times_told_push}
use Rattle.pp_numbers.proofs.WrittenNumbers.{set_raises}
use Rattle.pp_line.proofs.SeenLemmas.{within_more, greater_left, greater_right, length-greater}

all_backed_more : (v w : LineView) → ((x : Entry) → Contains v.events x → Contains w.events x) → ((x : FoundWord) → Contains v.found x → Contains w.found x) → (log : List Entry) → All (IsBacked v) log → All (IsBacked w) log
all_backed_more v w events found log b = grind arith

-- a view that has the same events, and has found and seen more
log_grown : {v : LineView} {log : List Entry} (w : LineView) → IsLogOf v log → w.events ≡ v.events → ((x : FoundWord) → Contains v.found x → Contains w.found x) → length w.seen ≡ length v.seen → ((d : ℕ) → get_or v.seen d 0 ≤ get_or w.seen d 0)
    → 0 < length w.program_orders → IsDrawnFrom w.program_orders log → IsLogOf w log
log_grown {v} {log} w is events found long raised some drawn = record {
  each_channel = long ∙ is.each_channel;
  told = λ c n. is.told c n ∙ ap (λ es. times_logged c n es) (sym events);
  backed = all_backed_more v w (λ x b. subst (λ es. Contains es x) (sym events) b) found log is.backed;
  within = within_more v.seen w.seen raised log is.within;
  some_program_order = some;
  drawn = drawn;
}

-- one that differs in its shares alone, or in its unrecorded loads
pub log_of_same : {v : LineView} {log : List Entry} (w : LineView) → IsLogOf v log → w.events ≡ v.events → w.found ≡ v.found → w.seen ≡ v.seen → w.program_orders ≡ v.program_orders → IsLogOf w log
log_of_same {v} {log} w is events found seen program_orders = grind (arith, log_grown)

-- a load found a word
pub log_of_load : {v w : LineView} {c word : ℕ} {log : List Entry} → IsLoad c v word w → IsLogOf v log → IsLogOf w log
log_of_load {v} {w} {c} {word} {log} load is =
    let P : LineView → Type 0 = λ x. IsLogOf x log in
    subst P (sym load.after_is) (log_grown (finds v c word) is refl (Contains-append_left v.found (record { channel = c; word = word } ∷ []))
    (length-set v.seen (channel_index c) (number_in word)) (λ d. set_raises v.seen (channel_index c) (number_in word) d (not_older_told load.tells))
    (omega (arith, is.some_program_order, length-extended v.program_orders (OnChannel (look_by c word) ∷ []))) (drawn_extended v.program_orders log (OnChannel (look_by c word) ∷ []) is.drawn))

-- an access that is none to a channel
pub log_beside : {v : LineView} {log : List Entry} (access : Access) (written : List ℕ) → IsLogOf v log → IsLogOf (record v { written = written; program_orders = extended v.program_orders (access ∷ []) }) log
log_beside {v} {log} access written is = grind (arith, log_grown, length-extended, drawn_extended)

-- the front of a log, and a last entry
set_end : {A : Type 0} (xs : List A) (n : ℕ) (y : A) → length xs ≡ n + 1 → slice_set xs n y ≡ take n xs ++ y ∷ []
set_end [] n y many = absurd (omega (arith, many))
set_end (x ∷ []) zero y many = refl
set_end (x ∷ z ∷ xs) zero y many = absurd (omega (arith, many))
set_end (x ∷ xs) (suc n) y many = ap (λ ys. x ∷ ys) (set_end xs n y (omega (arith, many)))

last_set : (log : LogState) (c : ℕ) (entry : Entry) → ends_in_look_at c log ≡ true → slice_set log.entries (length log.entries - 1) entry ≡ take (length log.entries - 1) log.entries ++ entry ∷ []
last_set log c entry ends = grind (arith, last_replaced, set_end)

front_in : (program_orders : List (List Access)) (log : List Entry) (n : ℕ) → IsDrawnFrom program_orders log → IsDrawnFrom program_orders (take n log)
front_in program_orders log n h = stands_front (take n log) (drop n log) (flat_map entries_among program_orders) (subst (IsDrawnFrom program_orders) (sym (take-append-drop n log)) h)

-- a look was written, by the word that was found last
pub log_of_look : {v w : LineView} (log : LogState) (c word : ℕ) → IsLogOf v log.entries → IsLoad c v word w → IsLogOf w (looked log (look_entry c (number_in word) (flags_in word))).entries
log_of_look {v} {w} log c word before load =
    let look : Entry = look_by c word in
    let is = log_of_load load before in
    let low : channel_index c < channel_count = channel_places.place_below c load.tells.named in
    let each = before.each_channel in
    let found : Contains w.found (record { channel = c; word = word }) = subst (λ (x : LineView). Contains x.found (record { channel = c; word = word })) (sym load.after_is) (Contains-push v.found (record { channel = c; word = word })) in
    let there : seen_on c w.seen ≡ number_in word = ap (λ x. seen_on c x.seen) load.after_is ∙ get_or-set_same v.seen (channel_index c) (number_in word) 0 (omega arith) in
    let seen : number_in word ≤ seen_on c w.seen = omega arith in
    let gone_on : (front : List Entry) → IsDrawnFrom v.program_orders front → IsDrawnFrom w.program_orders (front ++ look ∷ []) = λ front h.
    subst (λ (x : LineView). IsDrawnFrom x.program_orders (front ++ look ∷ [])) (sym load.after_is) (stands_with_last v.program_orders front look before.some_program_order h) in
    record {
      each_channel = is.each_channel;
      told = λ d n. told_looked log look refl d n ∙ is.told d n;
      backed = all_looked (IsBacked w) log look (word, found, refl, refl) is.backed;
      within = all_looked (λ x. known_after x.what x.number ≤ seen_on x.channel w.seen) log look seen is.within;
      some_program_order = is.some_program_order;
      drawn = grind (arith, looked_either, last_set, front_in);
    }

-- an event was made, and written
pub log_of_event : {v w : LineView} {c word : ℕ} {e : Event} {log : List Entry} → IsWonExchange c v word e w → IsLogOf v log → IsLogOf w (log ++ event_entry c (number_in word) e ∷ [])
log_of_event {v} {w} {c} {word} {e} {log} won is =
    let number : ℕ = number_in word in
    let deed = event_entry c number e in
    let i : ℕ = channel_index c in
    let low : i < channel_count = channel_places.place_below c won.tells.named in
    let each = is.each_channel in
    let later = not_older_told won.tells in
    let P : LineView → Type 0 = λ x. IsLogOf x (log ++ deed ∷ []) in
    subst P (sym won.after_is) (record {
      each_channel = length-set v.seen i (number + 1) ∙ is.each_channel;
      told = λ d n. times_told_push d n log deed ∙ (ap (λ k. k + told_by d n deed) (is.told d n) ∙ sym (times_told_push d n v.events deed));
      backed = All-push (IsBacked (makes v c number e)) log deed (all_backed_more v (makes v c number e) (Contains-append_left v.events (deed ∷ [])) (λ x b. b) log is.backed) (Contains-push v.events deed);
      within = All-push (λ x. known_after x.what x.number ≤ seen_on x.channel (slice_set v.seen i (number + 1))) log deed
          (within_more v.seen (slice_set v.seen i (number + 1)) (λ d. set_raises v.seen i (number + 1) d (omega arith)) log is.within)
          (let there = get_or-set_same v.seen i (number + 1) 0 (omega arith) in omega arith);
      some_program_order = omega (arith, is.some_program_order, length-extended v.program_orders (OnChannel deed ∷ []));
      drawn = stands_with_last v.program_orders log deed is.some_program_order is.drawn;
    })

-- two lines became one
pub log_of_joined : {v w : LineView} {log other : List Entry} → IsLogOf v log → IsLogOf w other → IsLogOf (joined_view v w) (log ++ other)
log_of_joined {v} {w} {log} {other} is more =
    let each : length v.seen ≡ length w.seen = is.each_channel ∙ sym more.each_channel in
    let seen = greater_of_each v.seen w.seen in
    record {
      each_channel = length-greater v.seen w.seen each ∙ is.each_channel;
      told = λ d n. times_told-append d n log other ∙ ((λ j. is.told d n j + more.told d n j) ∙ sym (times_told-append d n v.events w.events));
      backed = All-append (IsBacked (joined_view v w)) log other
          (all_backed_more v (joined_view v w) (Contains-append_left v.events w.events) (Contains-append_left v.found w.found) log is.backed)
          (all_backed_more w (joined_view v w) (Contains-append_right v.events w.events) (Contains-append_right v.found w.found) other more.backed);
      within = All-append (λ x. known_after x.what x.number ≤ seen_on x.channel seen) log other
          (within_more v.seen seen (λ d. greater_left v.seen w.seen d each) log is.within)
          (within_more w.seen seen (λ d. greater_right v.seen w.seen d each) other more.within);
      some_program_order = omega (arith, is.some_program_order, length-append v.program_orders w.program_orders);
      drawn = stands_joined v.program_orders w.program_orders log other is.drawn more.drawn;
    }

-- an exchange that was won, and one that was lost
pub exchange_won : {v w : LineView} {c expected word : ℕ} (e : Event) → IsExchange c expected e v word w → word ≡ expected → IsWonExchange c v word e w
exchange_won {v} {w} {c} {expected} {word} e exchanged same =
    MatchBool-at_true (IsWonExchange c v word e w) (IsLostExchange c expected v word w) (eq-eqb word expected same) exchanged

pub exchange_lost : {v w : LineView} {c expected word : ℕ} (e : Event) → IsExchange c expected e v word w → word ≢ expected → IsLostExchange c expected v word w
exchange_lost {v} {w} {c} {expected} {word} e exchanged other = grind (arith, ne_eqb)

-- what a line keeps beside its view, after a load
pub fields_of_load : {v w : LineView} {c word shares whole : ℕ} {seen after : List ℕ} {log : List Entry} → IsLoad c v word w → (seen ≡ v.seen) × (shares ≡ v.shares) × (whole ≡ v.whole) × IsLogOf v log → after ≡ slice_set seen (channel_index c) (number_in word)
    → (after ≡ w.seen) × (shares ≡ w.shares) × (whole ≡ w.whole) × IsLogOf w log
fields_of_load {c = c} {word = word} load kept is = (
  is ∙ (ap (λ xs. slice_set xs (channel_index c) (number_in word)) kept.0 ∙ ap (λ x. x.seen) (sym load.after_is)),
  kept.1 ∙ ap (λ x. x.shares) (sym load.after_is),
  kept.2 ∙ ap (λ x. x.whole) (sym load.after_is),
  log_of_load load kept.3,
)

-- and after an access to central memory
abbrev FieldsOf : List ℕ → ℕ → ℕ → List Entry → LineView → Type 0
FieldsOf seen shares whole log v = (seen ≡ v.seen) × (shares ≡ v.shares) × (whole ≡ v.whole) × IsLogOf v log

fields_beside : {v w : LineView} {shares whole : ℕ} {seen : List ℕ} {log : List Entry} (access : Access) (written : List ℕ) → w ≡ record v { written = written; program_orders = extended v.program_orders (access ∷ []) } → FieldsOf seen shares whole log v → FieldsOf seen shares whole log w
fields_beside {shares = shares} {whole = whole} {seen = seen} {log = log} access written is kept = subst (FieldsOf seen shares whole log) (sym is) (kept.0, kept.1, kept.2, log_beside access written kept.3)

pub fields_of_read : {v w : LineView} {shares whole : ℕ} {seen : List ℕ} {log : List Entry} (address : ℕ) (found : Option ℕ) → IfSome found (λ word. w ≡ reads v address word) → IfNone found (w ≡ v)
    → (seen ≡ v.seen) × (shares ≡ v.shares) × (whole ≡ v.whole) × IsLogOf v log → (seen ≡ w.seen) × (shares ≡ w.shares) × (whole ≡ w.whole) × IsLogOf w log
fields_of_read {shares = shares} {whole = whole} {seen = seen} {log = log} address None read stays kept = subst (FieldsOf seen shares whole log) (sym stays) kept
fields_of_read {v} address (Some word) read stays kept = fields_beside (Read address word) v.written read kept

pub fields_of_write : {v w : LineView} {shares whole : ℕ} {seen : List ℕ} {log : List Entry} (address word : ℕ) (inside : Bool) → MatchBool inside ((number : ℕ) × (w ≡ writes v address word number)) (w ≡ v)
    → (seen ≡ v.seen) × (shares ≡ v.shares) × (whole ≡ v.whole) × IsLogOf v log → (seen ≡ w.seen) × (shares ≡ w.shares) × (whole ≡ w.whole) × IsLogOf w log
fields_of_write {v} address word true written kept = fields_beside (Write address word written.0) (v.written ++ written.0 ∷ []) written.1 kept
fields_of_write {shares = shares} {whole = whole} {seen = seen} {log = log} address word false stays kept = subst (FieldsOf seen shares whole log) (sym stays) kept

-- a line whose view alone has changed, by a write
pub line_written : (inside : Bool) (before after : LineState) (address word : ℕ) → after.log ≡ before.log → after.table ≡ before.table
    → MatchBool inside ((number : ℕ) × (after.view ≡ writes before.view address word number)) (after.view ≡ before.view)
    → MatchBool inside ((number : ℕ) × (after ≡ record before { view = writes before.view address word number })) (after ≡ before)
line_written inside before after address word log table h3 = grind arith
