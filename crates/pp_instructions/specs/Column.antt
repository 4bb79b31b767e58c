-- Columns of a line, counted from 1 (decimal). A tab is one column.
use Rattle.std.specs.Prelude.{ℕ, ◌+◌, ◌-◌, ◌==◌, ◌&&◌, ◌||◌, Bool, not, List, length, filter, slice_index, slice_index_or}
use Rattle.std.specs.List.{range_with_len}
use Rattle.pp_deck.specs.DeckText.{is_blank}

-- whether a field begins with character i of a line
abbrev pub begins_field : List ℕ → ℕ → Bool
begins_field line i =
    not (is_blank (slice_index line i)) && (i == 0 || is_blank (slice_index line (i - 1)))

-- the column in which field n of a line begins; field 0 is the first
unfoldable pub column_of : List ℕ → ℕ → ℕ
column_of line n =
    slice_index_or (filter (begins_field line) (range_with_len 0 (length line))) n 0 + 1
