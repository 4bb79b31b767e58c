-- What a line knows, after each kind of step.
use Rattle.std.proofs.Common.{◌≡◌, ℕ, ◌+◌, ◌<◌, ◌≤◌, ◌≢◌, List, [], ◌∷◌, ◌++◌, length, take, set, sym, ap, ◌∙◌, arith}
use Rattle.std.specs.Prelude.{IsTrue, slice_index_or}
use Rattle.std.specs.List.{All}
use Rattle.std.proofs.lemmas.List.{append-nil, length-append, length-set, take-append-le, take_all, get_or-set_same, length_push, get_or_push, length-take-le}
use Rattle.std.proofs.lemmas.List.Elements.{All-nil, All-cons, All-append, All-push, All-weaker}
use Rattle.pp_line.specs.Types.{Access, Entry, Event, FoundWord, LineView, OnChannel}
use Rattle.pp_numbers.specs.ChannelNo.{channel_count, channel_index, names_channel, channel_places}
use Rattle.pp_line.specs.ChannelWord.{history_word, number_in}
use Rattle.pp_channel.specs.History.{HasTwelveBitWords, history_on}
use Rattle.pp_line.specs.LineView.{look_by, blank_view, parent_view, child_view, greater_of_each, joined_view, finds, makes}
use Rattle.pp_line.specs.LineLog.{known_after, seen_on, event_entry}
use Rattle.pp_line.specs.Order.{ExtendsEach}
use Rattle.pp_numbers.specs.Subsequence.{IsSubsequence}
use Rattle.pp_line.proofs.OrderLemmas.{extends_more, extends_push}
use Rattle.pp_line.specs.SharedWords.{IsFound, IsViewOf}
use Rattle.pp_channel.proofs.FrontLemmas.{twelve_bits_take}
use Rattle.pp_line.proofs.ChannelWordLemmas.{number_at_word}
use Rattle.pp_line.proofs.MergeLemmas.{Grow}
use Rattle.pp_numbers.proofs.WrittenNumbers.{set_at_each, set_raises}
use Rattle.pp_line.proofs.SeenLemmas.{within_more, greater_left, greater_right, greater_at, length-greater}

-- an empty program order is extended by each order
pub empty_order : (order : List Access) → ExtendsEach order ([] ∷ [])
empty_order order = All-cons (λ (t : List Access). IsSubsequence t order) [] [] tt (All-nil (λ (t : List Access). IsSubsequence t order))

-- the histories grow, or stay
pub grow_none : (histories : List (List Event)) → Grow histories histories
grow_none histories c = ([], append-nil (history_on c histories))

pub length_later : (before after : List (List Event)) → Grow before after → (c : ℕ) → length (history_on c before) ≤ length (history_on c after)
length_later before after grow c =
    let g = grow c in
    let len : length (history_on c after) ≡ length (history_on c before) + length g.0 = ap length (sym g.1) ∙ length-append (history_on c before) g.0 in
    omega arith

pub found_later : (before after : List (List Event)) → Grow before after → (found : FoundWord) → IsFound before found → IsFound after found
found_later before after grow found p =
    let h : List Event = history_on found.channel before in
    let g = grow found.channel in
    let longer = length_later before after grow found.channel in
    let at : p.0 ≤ length h = p.1 in
    let same : take p.0 (history_on found.channel after) ≡ take p.0 h = ap (take p.0) (sym g.1) ∙ take-append-le p.0 h g.0 at in
    (p.0, omega arith, ap history_word same ∙ p.2)

pub view_later : (before after : List (List Event)) (whole : ℕ) (opening : List ℕ) (order more : List Access) (v : LineView) → Grow before after → IsViewOf before whole opening order v → IsViewOf after whole opening (order ++ more) v
view_later before after whole opening order more v grow f = record {
  program_orders = extends_more order more v.program_orders f.program_orders;
  opened_with = f.opened_with;
  events_seen = f.events_seen;
  seen_happened = λ c. let a = f.seen_happened c in let b = length_later before after grow c in omega arith;
  words_found = All-weaker (IsFound before) (IsFound after) (found_later before after grow) v.found f.words_found;
  whole_is = f.whole_is;
  each_channel = f.each_channel;
  spent = f.spent;
}

-- the word of a channel is found
pub view_finds : (histories : List (List Event)) (whole : ℕ) (opening : List ℕ) (order : List Access) (v : LineView) (c word : ℕ) → history_word (history_on c histories) ≡ word → number_in word ≡ length (history_on c histories)
    → IsViewOf histories whole opening order v → IsViewOf histories whole opening (order ++ OnChannel (look_by c word) ∷ []) (finds v c word)
view_finds histories whole opening order v c word is number f =
    let n : ℕ = number_in word in
    let below = f.seen_happened c in
    let here : IsFound histories (record { channel = c; word = word }) = (length (history_on c histories), omega arith, ap history_word (take_all (length (history_on c histories)) (history_on c histories) (omega arith)) ∙ is) in
    record {
      program_orders = extends_push order (OnChannel (look_by c word)) v.program_orders f.program_orders;
      opened_with = f.opened_with;
      events_seen = within_more v.seen (set v.seen (channel_index c) n) (λ d. set_raises v.seen (channel_index c) n d (omega arith)) v.events f.events_seen;
      seen_happened = λ d. set_at_each (λ m. m ≤ length (history_on d histories)) v.seen (channel_index c) n (channel_index d) (f.seen_happened d) (λ e. let same : length (history_on d histories) ≡ length (history_on c histories) = ap (λ i. length (slice_index_or histories i [])) e in omega arith);
      words_found = All-push (IsFound histories) v.found (record { channel = c; word = word }) f.words_found here;
      whole_is = f.whole_is;
      each_channel = λ p. length-set v.seen (channel_index c) n ∙ f.each_channel p;
      spent = f.spent;
    }

-- its program orders go on, perhaps it wrote, and loads are counted
pub view_beside : (histories : List (List Event)) (whole : ℕ) (opening : List ℕ) (order now : List Access) (v : LineView) (loads : ℕ) (written : List ℕ) (program_orders : List (List Access)) → ExtendsEach now program_orders → (v.shares ≡ 0 → written ≡ [])
    → IsViewOf histories whole opening order v → IsViewOf histories whole opening now (record v { unrecorded_loads = loads; written = written; program_orders = program_orders })
view_beside histories whole opening order now v loads written program_orders extends none f = grind arith

-- the next event of a channel is made
pub view_makes : (before after : List (List Event)) (whole : ℕ) (opening : List ℕ) (order : List Access) (v : LineView) (c n : ℕ) (e : Event) → Grow before after → IsTrue (names_channel c)
    → n ≡ length (history_on c before) → length (history_on c after) ≡ n + 1 → 0 < v.shares → IsViewOf before whole opening order v → IsViewOf after whole opening (order ++ OnChannel (event_entry c n e) ∷ []) (makes v c n e)
view_makes before after whole opening order v c n e grow names now next live f =
    let below = f.seen_happened c in
    let wide = f.each_channel live in
    let i : ℕ = channel_index c in
    let low : i < channel_count = channel_places.place_below c names in
    let here : seen_on c (set v.seen i (n + 1)) ≡ n + 1 = get_or-set_same v.seen i (n + 1) 0 (omega arith) in
    let Q : Entry → Type 0 = λ entry. known_after entry.what entry.number ≤ seen_on entry.channel (set v.seen i (n + 1)) in
    record {
      program_orders = extends_push order (OnChannel (event_entry c n e)) v.program_orders f.program_orders;
      opened_with = f.opened_with;
      events_seen = All-push Q v.events (event_entry c n e) (within_more v.seen (set v.seen i (n + 1)) (λ d. set_raises v.seen i (n + 1) d (omega arith)) v.events f.events_seen) (omega arith);
      seen_happened = λ d. set_at_each (λ m. m ≤ length (history_on d after)) v.seen i (n + 1) (channel_index d) (let had = f.seen_happened d in let later = length_later before after grow d in omega (arith, had, later)) (λ e. let same : length (history_on d after) ≡ length (history_on c after) = ap (λ k. length (slice_index_or after k [])) e in omega arith);
      words_found = All-weaker (IsFound before) (IsFound after) (found_later before after grow) v.found f.words_found;
      whole_is = f.whole_is;
      each_channel = λ p. length-set v.seen i (n + 1) ∙ f.each_channel p;
      spent = λ z. absurd (omega arith);
    }

-- a share is given away
pub view_parent : (histories : List (List Event)) (whole : ℕ) (opening : List ℕ) (order : List Access) (v : LineView) → 1 < v.shares → IsViewOf histories whole opening order v → IsViewOf histories whole opening order (parent_view v)
view_parent histories whole opening order v two f = grind arith

pub view_child : (histories : List (List Event)) (whole : ℕ) (opening : List ℕ) (order : List Access) (v : LineView) → 1 < v.shares → IsViewOf histories whole opening order v → IsViewOf histories whole opening order (child_view v)
view_child histories whole opening order v two f = grind (arith, empty_order)

-- two views as one
pub view_joined : (histories : List (List Event)) (whole : ℕ) (opening : List ℕ) (order : List Access) (v w : LineView) → 0 < v.shares → 0 < w.shares → IsViewOf histories whole opening order v → IsViewOf histories whole opening order w → IsViewOf histories whole opening order (joined_view v w)
view_joined histories whole opening order v w live other f g =
    let a : length v.seen ≡ channel_count = f.each_channel live in
    let b : length w.seen ≡ channel_count = g.each_channel other in
    let seen : List ℕ = greater_of_each v.seen w.seen in
    let Q : Entry → Type 0 = λ entry. known_after entry.what entry.number ≤ seen_on entry.channel seen in
    record {
      program_orders = All-append (λ (accesses : List Access). IsSubsequence accesses order) v.program_orders w.program_orders f.program_orders g.program_orders;
      opened_with = λ _. f.opened_with live;
      events_seen = All-append Q v.events w.events (within_more v.seen seen (λ d. greater_left v.seen w.seen d (a ∙ sym b)) v.events f.events_seen)
          (within_more w.seen seen (λ d. greater_right v.seen w.seen d (a ∙ sym b)) w.events g.events_seen);
      seen_happened = λ c. let here = f.seen_happened c in let there = g.seen_happened c in omega (arith, greater_at v.seen w.seen (a ∙ sym b) (channel_index c), here, there);
      words_found = All-append (IsFound histories) v.found w.found f.words_found g.words_found;
      whole_is = λ _. f.whole_is live;
      each_channel = λ _. length-greater v.seen w.seen (a ∙ sym b) ∙ a;
      spent = λ z. absurd (omega arith);
    }

pub view_spent : (histories : List (List Event)) (whole : ℕ) (opening : List ℕ) (order : List Access) → IsViewOf histories whole opening order (blank_view 0 0 [] [])
view_spent histories whole opening order = grind (arith, empty_order)

-- the last of the words found
last_found : (histories : List (List Event)) (founds : List FoundWord) (found : FoundWord) → All (IsFound histories) (founds ++ found ∷ []) → IsFound histories found
last_found histories founds found p = grind (arith, length_push, get_or_push)

pub later_found : (histories : List (List Event)) (v : LineView) (c word before : ℕ) → All (IsFound histories) (finds v c before).found → HasTwelveBitWords (history_on c histories)
    → history_word (history_on c histories) ≡ word → word ≢ before → number_in before < number_in word
later_found histories v c word before p low is other = grind (arith, last_found, number_at_word, twelve_bits_take, length-take-le, take_all)
