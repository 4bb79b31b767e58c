-- The comment that names an order is plain text.
use Rattle.std.proofs.Common.{◌≡◌, ℕ, ◌+◌, Bool, true, false, eqb, List, [], ◌∷◌, ◌++◌, length, map, refl, arith}
use Rattle.std.specs.Prelude.{codes, nat_le}
use Rattle.std.specs.List.{join_with_byte, list_all}
use Rattle.std.proofs.lemmas.Bool.{and_from, le-leb}
use Rattle.pp_word.proofs.NumeralLemmas.{Pass, short_pass}
use Rattle.pp_deck.proofs.FieldTextLemmas.{is_plain}
use Rattle.pp_text.specs.OrderText.{StepsInARow, order_text, row_text, rows_of}
use Rattle.pp_text.proofs.Telling.{pass_more, short_decimal_pass}
use Rattle.pp_listing.specs.Dump.{order_comment}
use Rattle.pp_listing.proofs.ListedLineLemmas.{IsPlain, plain_append}

-- digits and a colon pass
pub row_pass : (p : ℕ → Bool) → Pass 10 p → p 58 ≡ true → (row : StepsInARow) → list_all p (row_text row) ≡ true
row_pass p pass colon row = grind (arith, pass_more, short_pass, short_decimal_pass)

pub plain_digit : Pass 10 is_plain
plain_digit d low = and_from (nat_le 32 (48 + d)) (nat_le (48 + d) 126) (le-leb 32 (48 + d) (omega arith)) (le-leb (48 + d) 126 (omega (arith, low)))

rows_plain : (rows : List StepsInARow) → IsPlain (join_with_byte 44 (map row_text rows))
rows_plain [] = refl
rows_plain (row ∷ []) = row_pass is_plain plain_digit refl row
rows_plain (row ∷ next ∷ rows) = search (plain_append, row_pass is_plain plain_digit refl row, rows_plain (next ∷ rows))

pub order_plain : (ns : List ℕ) → IsPlain (order_text ns)
unfolding order_text
order_plain ns = rows_plain (rows_of ns)

pub comment_plain : (ns : List ℕ) → IsPlain (codes "* GO ON WITH --order " ++ order_text ns)
comment_plain ns = plain_append (codes "* GO ON WITH --order ") (order_text ns) refl (order_plain ns)

pub comment_is : (ns : List ℕ) → eqb (length ns) 0 ≡ false → (codes "* GO ON WITH --order " ++ order_text ns) ++ 10 ∷ [] ≡ order_comment ns
comment_is ns some = grind arith
