-- Something of each of the four flags is something of all flags.
use Rattle.std.proofs.Common.{◌≡◌, ℕ, ◌/◌, ◌%◌, Bool, true, false, refl, sym, ap, ◌∙◌}
use Rattle.std.specs.Prelude.{◌==◌}
use Rattle.pp_channel.specs.declared.flags.Flags.{Flags}
use Rattle.pp_races.specs.ByFlags.{number_of}
use Rattle.pp_races.specs.declared.by_flags.ByFlags.{ByFlags}

-- what holds at each of the four holds at all
pub each_flags : (P : Flags → Type 0) → P (record { active = false; full = false }) → P (record { active = false; full = true }) → P (record { active = true; full = false }) → P (record { active = true; full = true }) → (f : Flags) → P f
each_flags P inactive inactive_full empty full f = by_flag f.active f.full
  where
    by_flag : (a b : Bool) → P (record { active = a; full = b })
    by_flag false false = inactive
    by_flag false true = inactive_full
    by_flag true false = empty
    by_flag true true = full

-- ---- the number of a set

set_of : ℕ → ByFlags Bool
set_of n = record { inactive = n % 2 == 1; inactive_full = n / 2 % 2 == 1; empty = n / 4 % 2 == 1; full = n / 8 % 2 == 1 }

back : (i j e f : Bool) → set_of (number_of (record { inactive = i; inactive_full = j; empty = e; full = f })) ≡ record { inactive = i; inactive_full = j; empty = e; full = f }
unfolding set_of
back false false false false = refl
back false false false true = refl
back false false true false = refl
back false false true true = refl
back false true false false = refl
back false true false true = refl
back false true true false = refl
back false true true true = refl
back true false false false = refl
back true false false true = refl
back true false true false = refl
back true false true true = refl
back true true false false = refl
back true true false true = refl
back true true true false = refl
back true true true true = refl

-- sets with one number are one
pub one_set : (one other : ByFlags Bool) → number_of one ≡ number_of other → one ≡ other
one_set one other same =
    sym (back one.inactive one.inactive_full one.empty one.full) ∙ ap set_of same ∙ back other.inactive other.inactive_full other.empty other.full
