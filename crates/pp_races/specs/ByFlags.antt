-- Something of each of the flags of a channel. (Private contracts alone cite this.)
use Rattle.std.specs.Prelude.{ℕ, ◌+◌, Bool, if◌then◌else◌}
use Rattle.pp_channel.specs.declared.flags.Flags.{Flags}
use Rattle.pp_races.specs.declared.by_flags.ByFlags.{ByFlags}

-- one of four, by the flags
abbrev pub at : {X : Type 0} → ByFlags X → Flags → X
at of flags =
    if flags.active then (if flags.full then of.full else of.empty)
    else (if flags.full then of.inactive_full else of.inactive)

-- the same of each
abbrev pub all : {X : Type 0} → X → ByFlags X
all x = record { inactive = x; inactive_full = x; empty = x; full = x }

-- how many sets of flags there are, and the number of a set: each has its own
abbrev pub set_count : ℕ
set_count = 16

abbrev pub number_of : ByFlags Bool → ℕ
number_of set =
    (if set.inactive then 1 else 0) + (if set.inactive_full then 2 else 0)
    + (if set.empty then 4 else 0) + (if set.full then 8 else 0)
