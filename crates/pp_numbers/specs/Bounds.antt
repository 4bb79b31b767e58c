-- Bounds of places or addresses.
use Rattle.std.specs.Prelude.{ℕ, ◌&&◌, Bool, nat_le}
use Rattle.pp_numbers.specs.declared.bounds.Bounds.{Bounds}

-- some number from one to another that is no less, both included, is within the bounds
abbrev pub meets : Bounds → ℕ → ℕ → Bool
meets bounds from to = nat_le bounds.first to && nat_le from bounds.last
