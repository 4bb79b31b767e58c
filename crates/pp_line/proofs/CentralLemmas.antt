-- The words of central memory, in an order that goes on.
use Rattle.std.proofs.Common.{◌≡◌, eqb, ℕ, ◌+◌, cond, List, [], ◌∷◌, ◌++◌, length, set, refl, sym, ap, ◌∙◌, arith}
use mathlib.Core.Option.{some}
use lib.ListN.{get_elem?}
use Rattle.std.specs.List.{flat_map, sum_by, range_with_len}
use Rattle.std.proofs.lemmas.List.{append-nil, length_push, length-set}
use Rattle.std.proofs.lemmas.List.Elements.{filter_map-append}
use Rattle.std.proofs.lemmas.List.Concat.{flat_map-append}
use Rattle.std.proofs.lemmas.List.Sums.{fold-append, sum_by-append}
use Rattle.pp_numbers.proofs.GrowingLists.{range_more}
use Rattle.pp_line.specs.Types.{Access, LineView, Write}
use Rattle.pp_line.specs.Order.{words_after, left_by, FindsWords, write_number, writes_among, times, AreMade}
use Rattle.pp_line.proofs.ListFacts.{count_by-parts, sum_by-write}

pub left_more : (words : List ℕ) (xs ys : List Access) → left_by words (xs ++ ys) ≡ left_by (left_by words xs) ys
left_more words xs ys = fold-append words_after words xs ys

pub length-left_by : (words : List ℕ) (order : List Access) → length (left_by words order) ≡ length words
length-left_by words [] = refl
length-left_by words (access ∷ order) = grind (arith, length-left_by (words_after words access) order, length-set)

pub finds_more : (words : List ℕ) (xs ys : List Access) → FindsWords words xs → FindsWords (left_by words xs) ys → FindsWords words (xs ++ ys)
finds_more words [] ys all more = more
finds_more words (x ∷ xs) ys all more = (all.0, finds_more (words_after words x) xs ys all.1 more)

-- the writes that a view made, and how often one of a number
abbrev pub written_in : LineView → List ℕ
written_in v = v.written

abbrev pub times_in : ℕ → LineView → ℕ
times_in n v = times n v.written

pub times_parts : (n : ℕ) (views : List LineView) → times n (flat_map written_in views) ≡ sum_by (times_in n) views
times_parts n views = count_by-parts written_in (λ m. eqb m n) views

pub times_more : (n : ℕ) (xs ys : List ℕ) → times n (xs ++ ys) ≡ times n xs + times n ys
times_more n xs ys = sum_by-append (λ m. cond (eqb m n) 1 0) xs ys

pub times_set : (n : ℕ) (views : List LineView) (id : ℕ) (v w : LineView) → get_elem? views id ≡ some v
    → times n (flat_map written_in (set views id w)) + times n v.written ≡ times n (flat_map written_in views) + times n w.written
times_set n views id v w at =
    let a = times_parts n views in
    let b = times_parts n (set views id w) in
    let t = sum_by-write (times_in n) views id v w at in
    omega (arith, a, b, t)

pub times_push : (n : ℕ) (views : List LineView) (w : LineView) → times n (flat_map written_in (views ++ w ∷ [])) ≡ times n (flat_map written_in views) + times n w.written
times_push n views w = ap (times n) (flat_map-append written_in views (w ∷ []) ∙ ap (λ (ws : List ℕ). flat_map written_in views ++ ws) (append-nil w.written)) ∙ times_more n (flat_map written_in views) w.written

-- no write more
writes_stay : (order more : List Access) → writes_among more ≡ [] → writes_among (order ++ more) ≡ writes_among order
writes_stay order more none = filter_map-append write_number order more ∙ (ap (λ (ws : List ℕ). writes_among order ++ ws) none ∙ append-nil (writes_among order))

pub made_same : {made now : List ℕ} {order more : List Access} → writes_among more ≡ writes_among order → ((n : ℕ) → times n now ≡ times n made) → AreMade made order → AreMade now more
made_same writes same is = record {
  numbered = writes ∙ (is.numbered ∙ ap (λ (ws : List ℕ). range_with_len 0 (length ws)) (sym writes));
  each = λ n. same n ∙ (is.each n ∙ ap (times n) (sym writes));
}

pub made_set : (views : List LineView) (order more : List Access) (id : ℕ) (v w : LineView) → writes_among more ≡ [] → get_elem? views id ≡ some v → w.written ≡ v.written
    → AreMade (flat_map written_in views) order → AreMade (flat_map written_in (set views id w)) (order ++ more)
made_set views order more id v w none at same is =
    made_same (writes_stay order more none) (λ n. let t = times_set n views id v w at in let e = ap (times n) same in omega (arith, t, e)) is

-- one write more, which has the next number
pub made_push : (views : List LineView) (order : List Access) (address word id : ℕ) (v w : LineView) → get_elem? views id ≡ some v → w.written ≡ v.written ++ length (writes_among order) ∷ []
    → AreMade (flat_map written_in views) order → AreMade (flat_map written_in (set views id w)) (order ++ Write address word (length (writes_among order)) ∷ [])
made_push views order address word id v w at more is =
    let next : ℕ = length (writes_among order) in
    let writes : writes_among (order ++ Write address word next ∷ []) ≡ writes_among order ++ next ∷ [] = filter_map-append write_number order (Write address word next ∷ []) in
    record {
      numbered = writes ∙ (ap (λ (ws : List ℕ). ws ++ next ∷ []) is.numbered ∙ (sym (range_more 0 next ∙ ap (λ (m : ℕ). range_with_len 0 next ++ m ∷ []) (omega arith)) ∙ ap (range_with_len 0) (sym (ap length writes ∙ length_push (writes_among order) next))));
      each = λ n.
          let t = times_set n views id v w at in
          let m = ap (times n) more ∙ times_more n v.written (next ∷ []) in
          let o = ap (times n) writes ∙ times_more n (writes_among order) (next ∷ []) in
          let e = is.each n in omega (arith, t, m, o, e);
    }
