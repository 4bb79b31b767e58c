-- The shared words at the start, and shares that are given away and joined, keep the rule.
use Rattle.std.proofs.Common.{◌≡◌, ℕ, ◌+◌, ◌^◌, ◌<◌, ◌≢◌, ⊎_elim, List, [], ◌∷◌, ◌++◌, length, get_or, set, replicate, refl, sym, ap, ◌∙◌, subst, arith}
use mathlib.Core.Option.{some}
use lib.ListN.{get_elem?}
use Rattle.std.specs.List.{All}
use Rattle.std.proofs.lemmas.List.{append-nil, length-append, length-replicate, get_or_append_left, get_or-append-add, drop_at}
use Rattle.std.proofs.lemmas.List.Concat.{flat_map-append}
use Rattle.std.proofs.lemmas.List.Elements.{All-nil, All-cons, All-append, All-push, All-set}
use Rattle.std.proofs.lemmas.List.Sums.{sum_by_push}
use Rattle.atomic_table.specs.Table.{Splits, Joins, opening}
use Rattle.atomic_table.proofs.Lists.{at_set}
use Rattle.pp_line.specs.Types.{Event, LineView}
use Rattle.pp_numbers.specs.ChannelNo.{channel_count, channel_index, channel_places}
use Rattle.pp_line.specs.ChannelWord.{history_word}
use Rattle.pp_channel.specs.History.{history_on}
use Rattle.pp_line.specs.LineView.{blank_view, first_view, parent_view, child_view, joined_view}
use Rattle.pp_line.specs.Merge.{IsTrueOf, Merges, no_opening}
use Rattle.pp_line.specs.SharedWords.{word_place, place_count, central_in, IsViewOf, Rule}
use Rattle.pp_channel.proofs.HistoryLemmas.{lawful_empty}
use Rattle.pp_line.proofs.ListFacts.{All-parts_set, flat_map-set_same, same_everywhere, sum_by-write}
use Rattle.pp_line.proofs.MergeLemmas.{once_past, TellsOnce, tells_once, merges_by, times_told-append}
use Rattle.pp_line.proofs.ViewLemmas.{empty_order, view_parent, view_child, view_joined, view_spent}
use Rattle.pp_line.proofs.CentralLemmas.{made_same, times_more, times_push, times_set}
use Rattle.pp_line.proofs.RuleLemmas.{events_in, all_events, shares_in, times-write, view_at, events_at}

-- the start
first_histories : List (List Event)
first_histories = replicate channel_count []

no_event : (c : ℕ) → history_on c first_histories ≡ []
unfolding first_histories
no_event c = same_everywhere channel_count (channel_index c) []

first_of : (whole : ℕ) (central : List ℕ) → IsViewOf first_histories whole central [] (first_view whole central)
first_of whole central = grind (arith, same_everywhere, first_histories, empty_order)

first_words : List ℕ → List ℕ
first_words central = replicate place_count 0 ++ central

first_kept : (whole : ℕ) (central : List ℕ) → ((address : ℕ) → get_or central address 0 < 2 ^ 60) → Rule whole central (opening (first_words central) [] (first_view whole central))
unfolding first_histories first_words
first_kept whole central small =
    let z : ℕ = 0 in
    let zeros : List ℕ = replicate place_count z in
    let many : length zeros ≡ place_count = length-replicate place_count z in
    let all : length (zeros ++ central) ≡ place_count + length central = length-append zeros central ∙ ap (λ n. n + length central) many in (
      first_histories,
      [],
      record {
        sound = grind (arith, length-replicate, lawful_empty);
        merged = grind (arith, merges_by, first_histories, no_event, once_past);
        places = all;
        words_are = λ c names. let low = channel_places.place_below c names in get_or_append_left zeros central z (word_place c) (omega (arith, many, low)) ∙ (same_everywhere place_count (word_place c) z ∙ ap history_word (sym (no_event c)));
        central_are = λ a low. ap (λ n. get_or (zeros ++ central) (n + a) 0) (sym many) ∙ get_or-append-add zeros central a 0;
        small = small;
        shares = omega arith;
        views_are = All-cons (IsViewOf first_histories whole central []) (first_view whole central) [] (first_of whole central) (All-nil (IsViewOf first_histories whole central []));
        total = record { each_history = λ c. sym (no_event c); legal = tt };
        finds = tt;
        made = record { numbered = refl; each = λ n. refl };
      },
    )

pub opening_kept : (whole : ℕ) (central words laid : List ℕ) → laid ≡ words → words ≡ replicate place_count 0 ++ central → ((address : ℕ) → get_or central address 0 < 2 ^ 60) → Rule whole (central_in words) (opening laid [] (first_view whole (central_in words)))
unfolding first_words
opening_kept whole central words laid same_words is small =
    let z : ℕ = 0 in
    let same : central_in words ≡ central = ap central_in is ∙ drop_at (replicate place_count z) central place_count (length-replicate place_count z) in
    subst (λ (ls : List ℕ). Rule whole (central_in words) (opening ls [] (first_view whole (central_in words)))) (sym same_words)
    (subst (λ (ws : List ℕ). Rule whole (central_in ws) (opening ws [] (first_view whole (central_in ws)))) (sym is)
    (subst (λ (ms : List ℕ). Rule whole ms (opening (first_words central) [] (first_view whole ms))) (sym (sym (ap central_in is) ∙ same)) (first_kept whole central small)))

-- a share is given away
pub split_allowed : (whole : ℕ) (opening : List ℕ) (id : ℕ) (v : LineView) → 1 < v.shares → Splits (Rule whole opening) id v (parent_view v) (child_view v)
split_allowed whole opening id v two s r at =
    let h = r.0 in
    let order = r.1 in
    let k = r.2 in
    let f = view_at whole opening s.words s.views h order k id v at in
    let rest : List LineView = set s.views id (parent_view v) in
    let same : all_events (rest ++ child_view v ∷ []) ≡ all_events s.views =
    flat_map-append events_in rest (child_view v ∷ []) ∙ (append-nil (all_events rest) ∙ flat_map-set_same events_in s.views id v (parent_view v) at refl) in (
      h,
      order,
      record {
        sound = k.sound;
        merged = subst (Merges no_opening h) (sym same) k.merged;
        places = k.places;
        words_are = k.words_are;
        central_are = k.central_are;
        small = k.small;
        shares = let t = sum_by-write shares_in s.views id v (parent_view v) at in let u = sum_by_push shares_in rest (child_view v) in let o = k.shares in omega arith;
        views_are = All-push (IsViewOf h whole opening order) rest (child_view v) (All-set (IsViewOf h whole opening order) s.views id (parent_view v) (view_parent h whole opening order v two f) k.views_are) (view_child h whole opening order v two f);
        total = k.total;
        finds = k.finds;
        made = made_same refl (λ n. let p = times_push n rest (child_view v) in let t = times_set n s.views id v (parent_view v) at in omega (arith, p, t)) k.made;
      },
    )

-- two views become one, and the other is spent
pub join_allowed : (whole : ℕ) (opening : List ℕ) (id : ℕ) (v : LineView) (other : ℕ) (w : LineView) → 0 < v.shares → 0 < w.shares → Joins (Rule whole opening) id v other w (joined_view v w) (blank_view 0 0 [] [])
join_allowed whole opening id v other w live live_other s r at apart there =
    let h = r.0 in
    let order = r.1 in
    let k = r.2 in
    let b : LineView = joined_view v w in
    let none : LineView = blank_view 0 0 [] [] in
    let rest : List LineView = set s.views id b in
    let was : get_elem? s.views other ≡ some w = ⊎_elim (λ (t : (other ≡ id) × (b ≡ w)). absurd (apart t.0)) (λ (t : (other ≢ id) × (get_elem? s.views other ≡ some w)). t.1) (at_set s.views id other b w there) in
    let entries : All (IsTrueOf h) b.events = All-append (IsTrueOf h) v.events w.events (events_at whole opening s.words s.views h order k id v at) (events_at whole opening s.words s.views h order k other w was) in
    let once : TellsOnce h (all_events (set rest other none)) = λ c number.
    let t = times-write c number s.views id v b at in
    let u = times-write c number rest other w none there in
    let m = times_told-append c number v.events w.events in
    let o = tells_once h (all_events s.views) k.merged c number in
    omega arith in (
      h,
      order,
      record {
        sound = k.sound;
        merged = merges_by h (all_events (set rest other none)) once
            (All-parts_set events_in (IsTrueOf h) rest other none (All-parts_set events_in (IsTrueOf h) s.views id b k.merged.entries_true entries) (All-nil (IsTrueOf h)));
        places = k.places;
        words_are = k.words_are;
        central_are = k.central_are;
        small = k.small;
        shares = let t = sum_by-write shares_in s.views id v b at in let u = sum_by-write shares_in rest other w none there in let o = k.shares in omega arith;
        views_are = All-set (IsViewOf h whole opening order) rest other none (view_spent h whole opening order)
            (All-set (IsViewOf h whole opening order) s.views id b
            (view_joined h whole opening order v w live live_other (view_at whole opening s.words s.views h order k id v at) (view_at whole opening s.words s.views h order k other w was)) k.views_are);
        total = k.total;
        finds = k.finds;
        made = made_same refl (λ n. let t = times_set n s.views id v b at in let u = times_set n rest other w none there in let m = times_more n v.written w.written in omega (arith, t, u, m)) k.made;
      },
    )
