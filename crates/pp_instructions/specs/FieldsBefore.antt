-- How many fields begin before a place of a line.
use Rattle.std.specs.Prelude.{◌≡◌, ℕ, ◌<◌, true, List, filter, length}
use Rattle.std.specs.List.{range_with_len}
use Rattle.pp_instructions.specs.Column.{begins_field}

abbrev pub fields_before : List ℕ → ℕ → ℕ
fields_before line place = length (filter (begins_field line) (range_with_len 0 place))

-- field n begins at this place
pub record IsFieldAt (line : List ℕ) (n place : ℕ) : Type 0 where
  pub within : place < length line
  pub begins : begins_field line place ≡ true
  pub counted : fields_before line place ≡ n
