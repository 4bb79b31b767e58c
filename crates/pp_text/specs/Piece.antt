-- The pieces of a text: the most bytes that one holds (decimal).
use Rattle.std.specs.Prelude.{ℕ}

abbrev pub piece_length : ℕ
piece_length = 8192
