-- What the rule of the shared words gives at one view, and a view in place of another.
use Rattle.std.proofs.Common.{◌≡◌, ◌≢◌, ℕ, ◌+◌, ◌-◌, ◌^◌, ◌<◌, List, [], ◌∷◌, ◌++◌, length, get_or, set, refl, sym, ap, ◌∙◌, subst, arith}
use mathlib.Core.Logic.{dite}
use mathlib.Core.Option.{some}
use native.Mathlib.Decide.{ℕ_discrete}
use lib.ListN.{get_elem?}
use Rattle.std.specs.Prelude.{IsTrue}
use Rattle.std.specs.List.{All, flat_map, sum_by}
use Rattle.std.proofs.lemmas.List.{append-nil, length-set, get_or-set_same, get_or-set_other}
use Rattle.std.proofs.lemmas.List.Elements.{All-set, All-weaker}
use Rattle.pp_line.specs.Types.{Access, Entry, Event, LineView, OnChannel, Read, Write}
use Rattle.pp_numbers.specs.ChannelNo.{channel_index, names_channel, channel_places}
use Rattle.pp_line.specs.ChannelWord.{number_in, flags_in}
use Rattle.pp_channel.specs.Answer.{flags_of}
use Rattle.pp_channel.specs.History.{IsLawful, HasTwelveBitWords, history_on}
use Rattle.pp_line.specs.LineSteps.{Tells}
use Rattle.pp_line.specs.LineView.{finds, look_by, reads, with_unrecorded_load, writes, Knows}
use Rattle.pp_line.specs.Order.{IsTotalOrderOf, FindsWords, AreMade, entries_among, left_by, times, writes_among}
use Rattle.pp_line.specs.Merge.{IsRecordedBy, IsTrueOf, Merges, no_opening, logs_event, times_logged}
use Rattle.pp_line.specs.SharedWords.{word_place, central_place, IsViewOf, KeepsRule}
use Rattle.pp_line.proofs.ListFacts.{All-read, All-part, flat_map-set_same, count_by-parts, sum_by-write, sum_by-sole}
use Rattle.pp_line.proofs.ChannelWordLemmas.{number_at_word, flags_of_word}
use Rattle.pp_line.proofs.OrderLemmas.{order_beside, order_more, extends_more, extends_push}
use Rattle.pp_line.proofs.MergeLemmas.{once_inside, TellsOnce, tells_once, merges_by, times_within}
use Rattle.pp_line.proofs.ViewLemmas.{grow_none, view_beside, view_finds, view_later}
use Rattle.pp_line.proofs.CentralLemmas.{finds_more, left_more, length-left_by, made_push, made_set, times_in as times_written, times_parts, written_in}
use Rattle.pp_numbers.proofs.WrittenNumbers.{set_at_each}

-- the events of all views, how often they tell one, and the shares
abbrev pub events_in : LineView → List Entry
events_in v = v.events

abbrev pub all_events : List LineView → List Entry
all_events views = flat_map events_in views

abbrev pub times_in : ℕ → ℕ → LineView → ℕ
times_in c number v = times_logged c number v.events

abbrev pub shares_in : LineView → ℕ
shares_in v = v.shares

pub times-parts : (c number : ℕ) (views : List LineView) → times_logged c number (all_events views) ≡ sum_by (times_in c number) views
times-parts c number views = count_by-parts events_in (logs_event c number) views

pub times-write : (c number : ℕ) (views : List LineView) (id : ℕ) (v w : LineView) → get_elem? views id ≡ some v
    → times_logged c number (all_events (set views id w)) + times_in c number v ≡ times_logged c number (all_events views) + times_in c number w
times-write c number views id v w at =
    let a = times-parts c number views in
    let b = times-parts c number (set views id w) in
    let t = sum_by-write (times_in c number) views id v w at in
    omega arith

module _ (whole : ℕ) (opening words : List ℕ) (views : List LineView) (histories : List (List Event)) (order : List Access) (k : KeepsRule whole opening words views histories order) where
  pub lawful_on : (c : ℕ) → IsTrue (names_channel c) → IsLawful (history_on c histories)
  lawful_on c names = let n = k.sound.each_channel in let l = channel_places.place_below c names in k.sound.lawful (channel_index c) [] (omega arith)

  pub low_on : (c : ℕ) → IsTrue (names_channel c) → HasTwelveBitWords (history_on c histories)
  low_on c names = let n = k.sound.each_channel in let l = channel_places.place_below c names in k.sound.twelve_bits (channel_index c) [] (omega arith)

  pub view_at : (id : ℕ) (v : LineView) → get_elem? views id ≡ some v → IsViewOf histories whole opening order v
  view_at id v at = All-read (IsViewOf histories whole opening order) views id v k.views_are at

  pub events_at : (id : ℕ) (v : LineView) → get_elem? views id ≡ some v → All (IsTrueOf histories) v.events
  events_at id v at = All-part events_in (IsTrueOf histories) views id v k.merged.entries_true at

  pub word_on : (c : ℕ) → IsTrue (names_channel c) → number_in (get_or words (word_place c) 0) ≡ length (history_on c histories)
  word_on c names = number_at_word (get_or words (word_place c) 0) (history_on c histories) (low_on c names) (sym (k.words_are c names))

  -- a view with the same events and shares in place of another, where the order goes on and the words of central memory may change
  goes_on : (id : ℕ) (v w : LineView) → get_elem? views id ≡ some v → w.events ≡ v.events → w.shares ≡ v.shares
      → (more : List Access) → IsViewOf histories whole opening (order ++ more) w → IsTotalOrderOf no_opening histories (entries_among (order ++ more)) → FindsWords (left_by opening order) more → AreMade (flat_map written_in (set views id w)) (order ++ more)
      → (now : List ℕ) → length now ≡ length words → ((c : ℕ) → IsTrue (names_channel c) → get_or now (word_place c) 0 ≡ get_or words (word_place c) 0)
      → ((a : ℕ) → a < length opening → get_or now (central_place a) 0 ≡ get_or (left_by (left_by opening order) more) a 0) → ((a : ℕ) → get_or (left_by (left_by opening order) more) a 0 < 2 ^ 60)
      → KeepsRule whole opening now (set views id w) histories (order ++ more)
  goes_on id v w at events shares more f total found made now same channels_are central_are small = record {
    sound = k.sound;
    merged = subst (Merges no_opening histories) (sym (flat_map-set_same events_in views id v w at events)) k.merged;
    places = same ∙ k.places;
    words_are = λ c names. channels_are c names ∙ k.words_are c names;
    central_are = λ a low. central_are a low ∙ ap (λ (ws : List ℕ). get_or ws a 0) (sym (left_more opening order more));
    small = λ a. subst (λ (ws : List ℕ). get_or ws a 0 < 2 ^ 60) (sym (left_more opening order more)) (small a);
    shares = let t = sum_by-write shares_in views id v w at in let o = k.shares in omega arith;
    views_are = All-set (IsViewOf histories whole opening (order ++ more)) views id w f
        (All-weaker (IsViewOf histories whole opening order) (IsViewOf histories whole opening (order ++ more)) (λ x g. view_later histories histories whole opening order more x (grow_none histories) g) views k.views_are);
    total = total;
    finds = finds_more opening order more k.finds found;
    made = made;
  }

  -- where no word changes, and none was written
  quiet : (id : ℕ) (v w : LineView) → get_elem? views id ≡ some v → w.events ≡ v.events → w.shares ≡ v.shares → w.written ≡ v.written
      → (more : List Access) → writes_among more ≡ [] → left_by (left_by opening order) more ≡ left_by opening order → FindsWords (left_by opening order) more
      → IsViewOf histories whole opening (order ++ more) w → IsTotalOrderOf no_opening histories (entries_among (order ++ more)) → KeepsRule whole opening words (set views id w) histories (order ++ more)
  quiet id v w at events shares written more none left found f total =
      goes_on id v w at events shares more f total found (made_set views order more id v w none at written k.made) words refl (λ c names. refl)
      (λ a low. k.central_are a low ∙ ap (λ (ws : List ℕ). get_or ws a 0) (sym left)) (λ a. subst (λ (ws : List ℕ). get_or ws a 0 < 2 ^ 60) (sym left) (k.small a))

  -- a view with every share has every event
  pub alone : (id : ℕ) (v : LineView) → get_elem? views id ≡ some v → v.shares ≡ whole → IsRecordedBy v.events v.seen histories
  alone id v at has =
      let f = view_at id v at in
      let once : TellsOnce histories v.events = λ c number.
      sym (sum_by-sole (times_in c number) shares_in views id v at (k.shares ∙ sym has)
      (All-weaker (IsViewOf histories whole opening order) (λ w. w.shares ≡ 0 → times_in c number w ≡ 0) (λ w g z. ap (times_logged c number) (g.spent z).0) views k.views_are))
      ∙ (sym (times-parts c number views) ∙ tells_once histories (all_events views) k.merged c number) in
      record {
        sound = k.sound;
        merged = merges_by histories v.events once (events_at id v at);
        counted = λ c. let top = f.seen_happened c in dite (ℕ_discrete (length (history_on c histories)) 0) (λ z. omega arith)
            (λ n. let last : ℕ = length (history_on c histories) - 1 in
            let o = once c last in
            let i = once_inside last (length (history_on c histories)) (omega arith) in
            let l = times_within c last v.seen v.events f.events_seen (omega arith) in
            omega arith);
      }

  pub knows : (id : ℕ) (v : LineView) → get_elem? views id ≡ some v → 0 < v.shares → Knows v v.events histories
  knows id v at live =
      let f = view_at id v at in
      record {
        sound = k.sound;
        log_true = events_at id v at;
        seen_happened = f.seen_happened;
        words_found = f.words_found;
        all_known = λ all. alone id v at (all ∙ f.whole_is live);
      }

  -- and made every write
  pub all_made : (id : ℕ) (v : LineView) → get_elem? views id ≡ some v → v.shares ≡ whole → AreMade v.written order
  all_made id v at has = record {
    numbered = k.made.numbered;
    each = λ n.
        sym (sum_by-sole (times_written n) shares_in views id v at (k.shares ∙ sym has)
        (All-weaker (IsViewOf histories whole opening order) (λ w. w.shares ≡ 0 → times_written n w ≡ 0) (λ w g z. ap (times n) (g.spent z).1) views k.views_are))
        ∙ (sym (times_parts n views) ∙ k.made.each n);
  }

  abbrev pub tells : (id : ℕ) (v : LineView) (c : ℕ) → IsTrue (names_channel c) → get_elem? views id ≡ some v → 0 < v.shares → Tells v c (get_or words (word_place c) 0)
  tells id v c names at live =
      let f = view_at id v at in record {
        named = names;
        histories = histories;
        known = knows id v at live;
        word_is = sym (k.words_are c names);
        order = order;
        total = k.total;
        finds = subst (λ (ws : List ℕ). FindsWords ws order) (sym (f.opened_with live)) k.finds;
        made = λ all. all_made id v at (all ∙ f.whole_is live);
        program_orders = f.program_orders;
      }

  -- the view of a line that found the word of a channel
  pub found_kept : (id : ℕ) (v : LineView) (c : ℕ) → IsTrue (names_channel c) → get_elem? views id ≡ some v
      → KeepsRule whole opening words (set views id (finds v c (get_or words (word_place c) 0))) histories (order ++ OnChannel (look_by c (get_or words (word_place c) 0)) ∷ [])
  found_kept id v c names at =
      let n : ℕ = get_or words (word_place c) 0 in
      let flags : flags_in n ≡ flags_of (history_on c histories) = ap flags_in (k.words_are c names) ∙ flags_of_word (history_on c histories) (low_on c names) in
      quiet id v (finds v c n) at refl refl refl (OnChannel (look_by c n) ∷ []) refl refl (tt, tt)
      (view_finds histories whole opening order v c n (sym (k.words_are c names)) (word_on c names) (view_at id v at))
      (order_more histories histories order (look_by c n) (word_on c names, flags) (λ d. sym (append-nil (history_on d histories))) k.total)

  -- the view of a line that checked its shares
  pub check_kept : (id : ℕ) (v : LineView) → get_elem? views id ≡ some v → KeepsRule whole opening words (set views id (with_unrecorded_load v)) histories (order ++ [])
  check_kept id v at =
      let f = view_at id v at in
      quiet id v (with_unrecorded_load v) at refl refl refl [] refl refl tt
      (view_beside histories whole opening order (order ++ []) v (v.unrecorded_loads + 1) v.written v.program_orders (extends_more order [] v.program_orders f.program_orders) (λ z. (f.spent z).1) f)
      (subst (λ (now : List Access). IsTotalOrderOf no_opening histories (entries_among now)) (sym (append-nil order)) k.total)

  -- that of a line that read the word at an address
  pub read_kept : (id : ℕ) (v : LineView) (address : ℕ) → address < length opening → get_elem? views id ≡ some v
      → KeepsRule whole opening words (set views id (reads v address (get_or words (central_place address) 0))) histories (order ++ Read address (get_or words (central_place address) 0) ∷ [])
  read_kept id v address inside at =
      let f = view_at id v at in
      let access : Access = Read address (get_or words (central_place address) 0) in
      let w : LineView = reads v address (get_or words (central_place address) 0) in
      quiet id v w at refl refl refl (access ∷ []) refl refl (sym (k.central_are address inside), tt)
      (view_beside histories whole opening order (order ++ access ∷ []) v v.unrecorded_loads v.written w.program_orders (extends_push order access v.program_orders f.program_orders) (λ z. (f.spent z).1) f)
      (order_beside histories order access refl k.total)

  -- and that of one that wrote a word there
  pub write_kept : (id : ℕ) (v : LineView) (address word : ℕ) → address < length opening → word < 2 ^ 60 → 0 < v.shares → get_elem? views id ≡ some v
      → KeepsRule whole opening (set words (central_place address) word) (set views id (writes v address word (length (writes_among order)))) histories (order ++ Write address word (length (writes_among order)) ∷ [])
  write_kept id v address word inside small live at =
      let f = view_at id v at in
      let access : Access = Write address word (length (writes_among order)) in
      let w : LineView = writes v address word (length (writes_among order)) in
      let left : List ℕ = left_by opening order in
      let long : length left ≡ length opening = length-left_by opening order in
      goes_on id v w at refl refl (access ∷ [])
      (view_beside histories whole opening order (order ++ access ∷ []) v v.unrecorded_loads w.written w.program_orders (extends_push order access v.program_orders f.program_orders) (λ z. absurd (omega arith)) f)
      (order_beside histories order access refl k.total) (tt, tt) (made_push views order address word id v w at refl k.made)
      (set words (central_place address) word) (length-set words (central_place address) word)
      (λ c names. let low = channel_places.place_below c names in get_or-set_other words (central_place address) (word_place c) word 0 (λ same. absurd (omega (arith, same, low))))
      (λ a below. dite (ℕ_discrete a address)
      (λ (is : a ≡ address).
      subst (λ (b : ℕ). get_or (set words (central_place address) word) (central_place b) 0 ≡ get_or (set left address word) b 0) (sym is)
      (get_or-set_same words (central_place address) word 0 (let n = k.places in omega arith) ∙ sym (get_or-set_same left address word 0 (omega arith))))
      (λ (other : a ≢ address). get_or-set_other words (central_place address) (central_place a) word 0 (λ same. other (omega (arith, same))) ∙ (k.central_are a below ∙ sym (get_or-set_other left address a word 0 other))))
      (λ a. set_at_each (λ n. n < 2 ^ 60) left address word a (k.small a) (λ _. small))
