-- Each step on the shared words keeps the rule, and tells what it says.
use Rattle.std.proofs.Common.{◌≡◌, ℕ, ◌+◌, ◌^◌, ◌<◌, ◌≢◌, eqb, List, [], ◌∷◌, ◌++◌, length, get_or, set, refl, sym, ap, ◌∙◌, subst, arith, eq-eqb, ne_eqb, Bool}
use mathlib.Core.Logic.{dite}
use mathlib.Core.Option.{none, some}
use native.Mathlib.Decide.{ℕ_discrete}
use lib.ListN.{get_elem?}
use prog.Atomic.{either}
use Rattle.std.specs.Prelude.{IsTrue, MatchBool, slice_get}
use Rattle.std.specs.List.{All}
use Rattle.std.proofs.lemmas.List.{append-nil, length-set, set-get_or, get_or-set_same, get_or-set_other, length_push}
use Rattle.std.proofs.lemmas.List.Elements.{All-set, All-push, All-weaker}
use Rattle.atomic_table.specs.Table.{Me, step, keeps, stepped, Allows}
use Rattle.pp_line.specs.Types.{Access, Event, LineView, OnChannel, Read, Write}
use Rattle.pp_numbers.specs.ChannelNo.{channel_count, channel_index, names_channel, channel_places}
use Rattle.pp_line.specs.ChannelWord.{history_word, number_in}
use Rattle.pp_channel.specs.History.{IsLawful, HasTwelveBitWord, HasTwelveBitWords, history_on}
use Rattle.pp_line.specs.LineSteps.{IsLoad, IsWonExchange, IsLostExchange, IsShareCheck, IsRead, IsWrite, OnCentral, exchanges}
use Rattle.pp_line.specs.LineSteps as steps
use Rattle.pp_line.specs.LineView.{finds, makes, reads, writes, look_by, with_unrecorded_load, Knows}
use Rattle.pp_line.specs.Merge.{IsTrueOf}
use Rattle.pp_line.specs.Order.{made_on, writes_among}
use Rattle.pp_line.specs.LineLog.{seen_on, event_entry}
use Rattle.pp_line.specs.SharedWords.{word_place, central_place, IsFound, IsViewOf, KeepsRule, Rule}
use Rattle.pp_line.proofs.ListFacts.{read_written, All-parts_set, sum_by-write, read-le-sum_by}
use Rattle.pp_line.proofs.MergeLemmas.{once_below, TellsOnce, tells_once, merges_by, times_told_push, told_elsewhere, told_next, Grow, slice_get_last, true_later, with_more, more_is, more_here, same_elsewhere, more_grow, length-with_more, All-with_more}
use Rattle.pp_line.proofs.ViewLemmas.{view_later, view_makes, later_found}
use Rattle.pp_line.proofs.RuleLemmas.{events_in, all_events, shares_in, times-write, lawful_on, low_on, word_on, view_at, events_at, found_kept, check_kept, read_kept, write_kept, alone, knows, tells}
use Rattle.pp_line.proofs.OrderLemmas.{order_more}
use Rattle.pp_line.proofs.CentralLemmas.{finds_more, left_more, made_set}

abbrev M : Type 0
M = Me Event LineView

-- a step on the word of one channel is on that of no other
one_channel : (c d : ℕ) → IsTrue (names_channel c) → word_place c ≡ word_place d → c ≡ d
one_channel c d names e = sym (channel_places.one_place c d names (omega arith))

one_address : (a b : ℕ) → central_place a ≡ central_place b → a ≡ b
one_address a b e = omega arith

-- what a load tells, in a table that keeps the rule
loaded : (whole : ℕ) (opening words : List ℕ) (views : List LineView) (histories : List (List Event)) (order : List Access) (k : KeepsRule whole opening words views histories order) (id : ℕ) (v : LineView) (c : ℕ) → IsTrue (names_channel c) → get_elem? views id ≡ some v → 0 < v.shares
    → IsLoad c v (get_or words (word_place c) 0) (finds v c (get_or words (word_place c) 0))
loaded whole opening words views histories order k id v c names at live =
    let w : LineView = finds v c (get_or words (word_place c) 0) in
    record {
      after_is = refl;
      tells = tells whole opening words views histories order k id v c names at live;
      known_after = knows whole opening words (set views id w) histories _ (found_kept whole opening words views histories order k id v c names at) id w (read_written views id v w at) live;
    }

-- a step that leaves the words as they are
stays : (whole : ℕ) (opening words : List ℕ) (views : List LineView) (histories : List (List Event)) (order : List Access) (place : ℕ) → KeepsRule whole opening words views histories order → KeepsRule whole opening (set words place (get_or words place 0)) views histories order
stays whole opening words views histories order place k = subst (λ ws. KeepsRule whole opening ws views histories order) (sym (set-get_or words place 0)) k

-- a load
pub load_allowed : (whole : ℕ) (opening : List ℕ) (slots id : ℕ) (me : M) (c : ℕ) → IsTrue (names_channel c) → Allows (Rule whole opening) slots id me (word_place c) (λ n. n) (steps.OnChannel IsLoad (step slots (word_place c) 0 0 none) me)
load_allowed whole opening slots id me c names s r _ at _ =
    let n : ℕ = get_or s.words (word_place c) 0 in
    let w : LineView = finds me.0 c n in (
      w,
      keeps,
      tt,
      (r.0, r.1 ++ OnChannel (look_by c n) ∷ [], stays whole opening s.words (set s.views id w) r.0 (r.1 ++ OnChannel (look_by c n) ∷ []) (word_place c) (found_kept whole opening s.words s.views r.0 r.1 r.2 id me.0 c names at)),
      (refl, λ d _ place live. subst (λ t. IsLoad t me.0 n w) (one_channel c d names place) (loaded whole opening s.words s.views r.0 r.1 r.2 id me.0 c names at live)),
    )

-- a load that is counted alone
pub share_check_allowed : (whole : ℕ) (opening : List ℕ) (slots id : ℕ) (me : M) (c : ℕ) → IsTrue (names_channel c) → Allows (Rule whole opening) slots id me (word_place c) (λ n. n) (steps.OnChannel IsShareCheck (step slots (word_place c) 0 0 none) me)
share_check_allowed whole opening slots id me c names s r _ at _ =
    let n : ℕ = get_or s.words (word_place c) 0 in
    let w : LineView = with_unrecorded_load me.0 in
    let all = r.2.shares in
    let least = read-le-sum_by shares_in s.views id me.0 at in (
      w,
      keeps,
      tt,
      (r.0, r.1 ++ [], stays whole opening s.words (set s.views id w) r.0 (r.1 ++ []) (word_place c) (check_kept whole opening s.words s.views r.0 r.1 r.2 id me.0 at)),
      (
        refl,
        λ d _ place live. subst (λ t. IsShareCheck t me.0 n w) (one_channel c d names place) (record {
          after_is = refl;
          shares_fit = let is = (view_at whole opening s.words s.views r.0 r.1 r.2 id me.0 at).whole_is live in omega arith;
          tells = tells whole opening s.words s.views r.0 r.1 r.2 id me.0 c names at live;
        }),
      ),
    )

-- an event e on channel c
module _ (whole : ℕ) (opening words : List ℕ) (views : List LineView) (histories : List (List Event)) (order : List Access) (k : KeepsRule whole opening words views histories order) (c : ℕ) (names : IsTrue (names_channel c)) (e : Event) (new : ℕ)
    (next : IsLawful (history_on c histories ++ e ∷ []) × HasTwelveBitWord e × (history_word (history_on c histories ++ e ∷ []) ≡ new)) where
  after : List (List Event)
  after = with_more histories c (e ∷ [])

  within : channel_index c < length histories
  within = let n = k.sound.each_channel in let l = channel_places.place_below c names in omega arith

  grown : Grow histories after
  unfolding after
  grown = more_grow histories c (e ∷ []) names within

  here : (d : ℕ) → d ≡ c → history_on d after ≡ history_on c histories ++ e ∷ []
  unfolding after
  here d is = more_here histories c d (e ∷ []) within is

  elsewhere : (d : ℕ) → d ≢ c → history_on d after ≡ history_on d histories
  unfolding after
  elsewhere d other = same_elsewhere histories c d (e ∷ []) names other

  grows : (d : ℕ) → history_on d after ≡ history_on d histories ++ made_on d (event_entry c (length (history_on c histories)) e ∷ [])
  grows d = grind (arith, eq-eqb, here, ne_eqb, elsewhere, append-nil)

  length_here : (d : ℕ) → d ≡ c → length (history_on d after) ≡ length (history_on c histories) + 1
  length_here d is = ap length (here d is) ∙ length_push (history_on c histories) e

  channels_after : length after ≡ channel_count
  unfolding after
  channels_after = length-with_more histories c (e ∷ []) ∙ k.sound.each_channel

  each_after : (P : List Event → Type 0) → All P histories → P (history_on c histories ++ e ∷ []) → All P after
  unfolding after
  each_after P p q = All-with_more P histories c (e ∷ []) p q

  word_after : (d : ℕ) → IsTrue (names_channel d) → get_or (set words (word_place c) new) (word_place d) 0 ≡ history_word (history_on d after)
  word_after d named = grind (arith, get_or-set_same, channel_places.place_below, here, get_or-set_other, one_channel, elsewhere)

  once_after : (id : ℕ) (v : LineView) → get_elem? views id ≡ some v → TellsOnce after (all_events (set views id (makes v c (length (history_on c histories)) e)))
  once_after id v at d number =
      let n : ℕ = length (history_on c histories) in
      let t = times-write d number views id v (makes v c n e) at in
      let o = tells_once histories (all_events views) k.merged d number in
      let more = times_told_push d number v.events (event_entry c n e) in
      dite (ℕ_discrete d c)
      (λ (is : d ≡ c). let nx = told_next d number c n e (sym is) in
      let old : once_below number (length (history_on d histories)) ≡ once_below number n = ap (λ z. once_below number (length (history_on z histories))) is in
      let fin : once_below number (length (history_on d after)) ≡ once_below number (n + 1) = ap (once_below number) (length_here d is) in omega arith)
      (λ (other : d ≢ c). let none_new = told_elsewhere d number c n e (λ z. other (sym z)) in
      let fin : once_below number (length (history_on d after)) ≡ once_below number (length (history_on d histories)) = ap (λ z. once_below number (length z)) (elsewhere d other) in omega arith)

  made : (id : ℕ) (v : LineView) → get_elem? views id ≡ some v → 0 < v.shares
      → KeepsRule whole opening (set words (word_place c) new) (set views id (makes v c (length (history_on c histories)) e)) after (order ++ OnChannel (event_entry c (length (history_on c histories)) e) ∷ [])
  made id v at live =
      let n : ℕ = length (history_on c histories) in
      let w : LineView = makes v c n e in
      let made_true : IsTrueOf after (event_entry c n e) = ap (λ h. slice_get h n) (here c refl) ∙ slice_get_last (history_on c histories) e in
      let more : List Access = OnChannel (event_entry c n e) ∷ [] in
      record {
        sound = record {
          each_channel = channels_after;
          lawful = each_after IsLawful k.sound.lawful next.0;
          twelve_bits = each_after HasTwelveBitWords k.sound.twelve_bits (All-push HasTwelveBitWord (history_on c histories) e (low_on whole opening words views histories order k c names) next.1);
        };
        merged = merges_by after (all_events (set views id w)) (once_after id v at)
            (All-parts_set events_in (IsTrueOf after) views id w (All-weaker (IsTrueOf histories) (IsTrueOf after) (true_later histories after grown) (all_events views) k.merged.entries_true)
            (All-push (IsTrueOf after) v.events (event_entry c n e) (All-weaker (IsTrueOf histories) (IsTrueOf after) (true_later histories after grown) v.events (events_at whole opening words views histories order k id v at)) made_true));
        places = length-set words (word_place c) new ∙ k.places;
        words_are = word_after;
        central_are = λ a low. let below = channel_places.place_below c names in get_or-set_other words (word_place c) (central_place a) new 0 (λ same. absurd (omega (arith, same, below)))
            ∙ (k.central_are a low ∙ ap (λ (ws : List ℕ). get_or ws a 0) (sym (left_more opening order more)));
        small = λ a. subst (λ (ws : List ℕ). get_or ws a 0 < 2 ^ 60) (sym (left_more opening order more)) (k.small a);
        shares = let t = sum_by-write shares_in views id v w at in let o = k.shares in omega arith;
        views_are = All-set (IsViewOf after whole opening (order ++ more)) views id w
            (view_makes histories after whole opening order v c n e grown names refl (length_here c refl) live (view_at whole opening words views histories order k id v at))
            (All-weaker (IsViewOf histories whole opening order) (IsViewOf after whole opening (order ++ more)) (λ x f. view_later histories after whole opening order more x grown f) views k.views_are);
        total = order_more histories after order (event_entry c n e) refl grows k.total;
        finds = finds_more opening order more k.finds (tt, tt);
        made = made_set views order more id v w refl at refl k.made;
      }

  made_at : (id : ℕ) (v : LineView) (n : ℕ) → n ≡ length (history_on c histories) → get_elem? views id ≡ some v → 0 < v.shares → KeepsRule whole opening (set words (word_place c) new) (set views id (makes v c n e)) after (order ++ OnChannel (event_entry c n e) ∷ [])
  made_at id v n is at live = subst (λ (t : ℕ). KeepsRule whole opening (set words (word_place c) new) (set views id (makes v c t e)) after (order ++ OnChannel (event_entry c t e) ∷ [])) (sym is) (made id v at live)

  -- what the exchange that makes it tells
  won : (id : ℕ) (v : LineView) → get_elem? views id ≡ some v → 0 < v.shares → IsWonExchange c v (get_or words (word_place c) 0) e (makes v c (number_in (get_or words (word_place c) 0)) e)
  unfolding after
  won id v at live =
      let n : ℕ = get_or words (word_place c) 0 in
      let w : LineView = makes v c (number_in n) e in
      record {
        after_is = refl;
        tells = tells whole opening words views histories order k id v c names at live;
        known_after = subst (Knows w w.events) (more_is histories c (e ∷ []))
            (knows whole opening (set words (word_place c) new) (set views id w) after _ (made_at id v (number_in n) (word_on whole opening words views histories order k c names) at live) id w (read_written views id v w at) live);
      }

-- The line with the view v loaded the word `before` of channel c last; where the word is another now, other lines made events.
lost : (whole : ℕ) (opening words : List ℕ) (views : List LineView) (histories : List (List Event)) (order : List Access) (k : KeepsRule whole opening words views histories order) (id : ℕ) (v was : LineView) (c before : ℕ) → IsTrue (names_channel c)
    → get_elem? views id ≡ some v → 0 < v.shares → v ≡ finds was c before → get_or words (word_place c) 0 ≢ before
    → IsLostExchange c before v (get_or words (word_place c) 0) (finds v c (get_or words (word_place c) 0))
lost whole opening words views histories order k id v was c before names at live from other =
    let n : ℕ = get_or words (word_place c) 0 in
    let low : channel_index c < channel_count = channel_places.place_below c names in
    let f = view_at whole opening words views histories order k id v at in
    let number : number_in n ≡ length (history_on c histories) = word_on whole opening words views histories order k c names in
    let later : number_in before < number_in n =
    later_found histories was c n before (subst (λ (t : LineView). All (IsFound histories) t.found) from f.words_found) (low_on whole opening words views histories order k c names) (sym (k.words_are c names)) other in
    let wide : length was.seen ≡ channel_count = sym (length-set was.seen (channel_index c) (number_in before)) ∙ (ap (λ (t : LineView). length t.seen) (sym from) ∙ f.each_channel live) in
    let now : seen_on c v.seen ≡ number_in before = ap (λ (t : LineView). seen_on c t.seen) from ∙ get_or-set_same was.seen (channel_index c) (number_in before) 0 (omega arith) in
    record {
      load = loaded whole opening words views histories order k id v c names at live;
      later = later;
      others = λ all. let known = (alone whole opening words views histories order k id v at (all ∙ f.whole_is live)).counted c in omega arith;
    }

-- an exchange for any event that the history takes
pub exchange_allowed : (whole : ℕ) (opening : List ℕ) (slots id : ℕ) (me : M) (c expected new : ℕ) (e : Event) (was : LineView) → IsTrue (names_channel c) → 0 < me.0.shares → me.0 ≡ finds was c expected
    → ((h : List Event) → IsLawful h → HasTwelveBitWords h → history_word h ≡ expected → IsLawful (h ++ e ∷ []) × HasTwelveBitWord e × (history_word (h ++ e ∷ []) ≡ new))
    → Allows (Rule whole opening) slots id me (word_place c) (λ n. either (eqb n expected) new n) (exchanges (step slots (word_place c) expected new (some e)) me)
exchange_allowed whole opening slots id me c expected new e was names live from next s r _ at _ =
    let n : ℕ = get_or s.words (word_place c) 0 in
    let h = r.0 in
    let o = r.1 in
    let k = r.2 in
    let Told : LineView → Bool → ℕ → Type 0 = λ w b d. MatchBool b (IsWonExchange d me.0 n e w) (IsLostExchange d expected me.0 n w) in
    dite (ℕ_discrete n expected)
    (λ (hit : n ≡ expected). let w : LineView = makes me.0 c (number_in n) e in
    let takes = next (history_on c h) (lawful_on whole opening s.words s.views h o k c names) (low_on whole opening s.words s.views h o k c names) (sym (k.words_are c names) ∙ hit) in
    let kept = made_at whole opening s.words s.views h o k c names e new takes id me.0 (number_in n) (word_on whole opening s.words s.views h o k c names) at live in (
      w,
      keeps,
      tt,
      subst (λ b. Rule whole opening (stepped s (word_place c) (either b new n) id me.1 w keeps)) (sym (eq-eqb n expected hit)) (after whole opening s.words s.views h o k c names e new takes, o ++ OnChannel (event_entry c (number_in n) e) ∷ [], kept),
      (refl, λ d _ place _. subst (Told w (eqb n expected)) (one_channel c d names place) (subst (λ b. Told w b c) (sym (eq-eqb n expected hit)) (won whole opening s.words s.views h o k c names e new takes id me.0 at live))),
    ))
    (λ (miss : n ≢ expected). let w : LineView = finds me.0 c n in (
      w,
      keeps,
      tt,
      subst (λ b. Rule whole opening (stepped s (word_place c) (either b new n) id me.1 w keeps)) (sym (ne_eqb n expected miss))
          (h, o ++ OnChannel (look_by c n) ∷ [], stays whole opening s.words (set s.views id w) h (o ++ OnChannel (look_by c n) ∷ []) (word_place c) (found_kept whole opening s.words s.views h o k id me.0 c names at)),
      (refl, λ d _ place _. subst (Told w (eqb n expected)) (one_channel c d names place) (subst (λ b. Told w b c) (sym (ne_eqb n expected miss)) (lost whole opening s.words s.views h o k id me.0 was c expected names at live from miss))),
    ))

-- a read
pub read_allowed : (whole : ℕ) (opening : List ℕ) (slots id : ℕ) (me : M) (address : ℕ) → 0 < me.0.shares → address < length me.0.central → Allows (Rule whole opening) slots id me (central_place address) (λ n. n) (OnCentral IsRead (step slots (central_place address) 0 0 none) me)
read_allowed whole opening slots id me address live low s r _ at _ =
    let n : ℕ = get_or s.words (central_place address) 0 in
    let w : LineView = reads me.0 address n in
    let within : address < length opening = subst (λ (ws : List ℕ). address < length ws) ((view_at whole opening s.words s.views r.0 r.1 r.2 id me.0 at).opened_with live) low in (
      w,
      keeps,
      tt,
      (r.0, r.1 ++ Read address n ∷ [], stays whole opening s.words (set s.views id w) r.0 (r.1 ++ Read address n ∷ []) (central_place address) (read_kept whole opening s.words s.views r.0 r.1 r.2 id me.0 address within at)),
      (refl, λ d place. subst (λ t. IsRead t me.0 n w) (one_address address d place) (record { after_is = refl; small = subst (λ (x : ℕ). x < 2 ^ 60) (sym (r.2.central_are address within)) (r.2.small address) })),
    )

-- a write
pub write_allowed : (whole : ℕ) (opening : List ℕ) (slots id : ℕ) (me : M) (address word : ℕ) → 0 < me.0.shares → address < length me.0.central → word < 2 ^ 60
    → Allows (Rule whole opening) slots id me (central_place address) (λ _. word) (λ _. OnCentral IsWrite (step slots (central_place address) word 0 none) me word)
write_allowed whole opening slots id me address word live low small s r _ at _ =
    let number : ℕ = length (writes_among r.1) in
    let within : address < length opening = subst (λ (ws : List ℕ). address < length ws) ((view_at whole opening s.words s.views r.0 r.1 r.2 id me.0 at).opened_with live) low in (
      writes me.0 address word number,
      keeps,
      tt,
      (r.0, r.1 ++ Write address word number ∷ [], write_kept whole opening s.words s.views r.0 r.1 r.2 id me.0 address word within small live at),
      (refl, λ d place. subst (λ t. IsWrite t me.0 word (writes me.0 address word number)) (one_address address d place) (number, refl)),
    )
