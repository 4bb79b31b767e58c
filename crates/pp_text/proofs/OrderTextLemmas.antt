-- The text of an order, row by row.
use Rattle.std.proofs.Common.{◌≡◌, ℕ, suc, ◌+◌, ◌<◌, ◌≤◌, Bool, eqb, List, [], ◌∷◌, ◌++◌, add-one, append-nil, append_assoc, drop, length, get_or, refl, sym, ap, ◌∙◌, arith}
use Rattle.std.specs.Prelude.{take_while}
use Rattle.std.specs.List.{prefix_len}
use Rattle.std.proofs.lemmas.Bool.{eq-eqb, eqb-true}
use Rattle.std.proofs.lemmas.List.{drop_all, drop_more, drop-drop, length-drop, length-take}
use Rattle.std.proofs.lemmas.List.Sums.{prefix_len-le-length}
use Rattle.pp_text.specs.OrderText.{StepsInARow, order_text, row_text, rows_of, step_and_rows}

-- how many steps at the front are processor n's
unfoldable pub in_front : ℕ → List ℕ → ℕ
in_front n ns = prefix_len (λ k. eqb k n) ns

-- ---- the first row

unfoldable pub first_row : ℕ → List ℕ → StepsInARow
first_row n ns = record { processor = n; count = in_front n ns + 1 }

join_row : (n k : ℕ) (ns : List ℕ) (b : Bool) → eqb k n ≡ b → rows_of (k ∷ ns) ≡ first_row k ns ∷ rows_of (drop (in_front k ns) ns)
    → step_and_rows n (rows_of (k ∷ ns)) ≡ first_row n (k ∷ ns) ∷ rows_of (drop (in_front n (k ∷ ns)) (k ∷ ns))
unfolding first_row in_front
join_row n k ns b same is = grind (arith, eqb-true)

pub rows_next : (n : ℕ) (ns : List ℕ) → rows_of (n ∷ ns) ≡ first_row n ns ∷ rows_of (drop (in_front n ns) ns)
unfolding first_row rows_of in_front
rows_next n [] = grind arith
rows_next n (k ∷ ns) = grind (arith, join_row, eqb, rows_next k ns)

-- ---- its text

-- what comes behind a row
unfoldable pub behind : List ℕ → List ℕ
behind [] = []
behind (n ∷ ns) = 44 ∷ order_text (n ∷ ns)

some_behind : (n : ℕ) (ms ns : List ℕ) → ns ≡ n ∷ ms → behind ns ≡ 44 ∷ order_text ns
unfolding behind
some_behind n ms ns e = rw e refl

-- ---- an order, printed as far as a place

pub record IsPrintedTo (order text : List ℕ) (place : ℕ) : Type 0 where
  pub within : place ≤ length order
  pub whole : text ++ order_text (drop place order) ≡ order_text order

-- the next row
module _ (order text : List ℕ) (place n count : ℕ) (so_far : IsPrintedTo order text place) (more : place < length order) (next : n ≡ get_or order place n) (is : count ≡ length (take_while (λ k. eqb k n) (drop place order))) where
  rest : List ℕ
  rest = drop (place + 1) order

  count_is : count ≡ suc (in_front n rest)
  unfolding in_front rest
  count_is = grind (arith, rest, eq-eqb, length-take, eqb, prefix_len-le-length, drop_more)

  pub some : 0 < count
  some = omega (arith, count_is)

  pub row_within : place + count ≤ length order
  unfolding in_front rest
  row_within = omega (arith, count_is, prefix_len-le-length (λ k. eqb k n) rest, length-drop (place + 1) order, more)

  row_is : record { processor = n; count = count } ≡ first_row n rest
  unfolding first_row
  row_is = ap (λ (k : ℕ). record { processor = n; count = k }) (count_is ∙ sym (add-one (in_front n rest)))

  printed : (text ++ row_text (record { processor = n; count = count })) ++ behind (drop (place + count) order) ≡ order_text order
  unfolding order_text behind rows_of rest
  printed = grind (arith, append_assoc, row_is, rest, rows_next, append-nil, drop_more, count_is, drop-drop)

  pub with_comma : place + count < length order → IsPrintedTo order ((text ++ row_text (record { processor = n; count = count })) ++ 44 ∷ []) (place + count)
  with_comma further = record {
    within = row_within;
    whole = append_assoc (text ++ row_text (record { processor = n; count = count })) (44 ∷ []) (order_text (drop (place + count) order))
        ∙ ap (λ (ns : List ℕ). (text ++ row_text (record { processor = n; count = count })) ++ ns)
        (sym (some_behind (get_or order (place + count) 0) (drop (place + count + 1) order) (drop (place + count) order) (drop_more order (place + count) 0 further)))
        ∙ printed;
  }

  pub without : length order ≤ place + count → IsPrintedTo order (text ++ row_text (record { processor = n; count = count })) (place + count)
  unfolding behind order_text rows_of
  without past = grind (arith, row_within, drop_all, printed)

pub all_printed : (order text : List ℕ) (place : ℕ) → IsPrintedTo order text place → length order ≤ place → text ≡ order_text order
unfolding order_text rows_of
all_printed order text place so_far past = grind (arith, drop_all, append-nil)
