use Rattle.std.proofs.Common.{◌≡◌}
use Rattle.std.specs.Prelude.{replicate}
use Rattle.pp_steps.specs.HeldSpells.{no_spells}
use Rattle.pp_steps.proofs.spell_counts.without_spells.Given as goal

abbrev pub invariant-loop : goal.invariant-loop
invariant-loop g l = l.spells.items ≡ replicate l.counter no_spells
