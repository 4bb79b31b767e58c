-- Memory that is lent to a call in a place of its owner's.
use Rattle.std.specs.Prelude.{◌≡◌, ◌⊎◌}
use Rattle.fixed_arena.specs.declared.memory.Memory.{Memory}

-- as much memory lies in the place after the call as before it, or none
abbrev pub IsGivenBack : Memory → Memory → Type 0
IsGivenBack old new = (new.size ≡ old.size) ⊎ (new.size ≡ 0)
