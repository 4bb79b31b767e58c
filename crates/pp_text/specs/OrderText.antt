-- The text of an order of steps, like `0:3,1,11:20`: steps in a row of one processor are one item.
use Rattle.std.specs.Prelude.{ℕ, ◌+◌, ◌==◌, List, [], ◌∷◌, ◌++◌, codes, map, if◌then◌else◌}
use Rattle.std.specs.List.{join_with_byte}
use Rattle.pp_word.specs.Numeral.{short_decimal, short_octal}

-- some steps in a row of one processor
pub record StepsInARow : Type 0 where
  pub processor : ℕ
  pub count : ℕ

-- a step, and then others: it is one more of theirs in a row, or stands alone
abbrev pub step_and_rows : ℕ → List StepsInARow → List StepsInARow
step_and_rows n [] = record { processor = n; count = 1 } ∷ []
step_and_rows n (row ∷ rows) = if row.processor == n
    then record row { count = row.count + 1 } ∷ rows
    else record { processor = n; count = 1 } ∷ row ∷ rows

-- the steps of an order, those in a row of one processor together
unfoldable pub rows_of : List ℕ → List StepsInARow
rows_of [] = []
rows_of (n ∷ ns) = step_and_rows n (rows_of ns)

-- `0:3`, or `1` for a single step: the processor in octal, the number of steps in decimal
abbrev pub row_text : StepsInARow → List ℕ
row_text row = short_octal 2 row.processor
    ++ (if row.count == 1 then [] else codes ":" ++ short_decimal row.count)

-- with a comma (44 in ASCII) between them
unfoldable pub order_text : List ℕ → List ℕ
order_text ns = join_with_byte 44 (map row_text (rows_of ns))
