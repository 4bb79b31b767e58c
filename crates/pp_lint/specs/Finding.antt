-- What is found.
use Rattle.std.specs.Prelude.{ℕ, List}

-- a line and a column, counted from 1, and what is said of them
pub record Finding : Type 0 where
  pub line : ℕ
  pub column : ℕ
  pub words : List ℕ
