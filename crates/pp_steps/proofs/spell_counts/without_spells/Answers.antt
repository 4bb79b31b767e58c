use Rattle.std.proofs.Common.{◌≡◌, ◌∙◌, arith}
use Rattle.std.proofs.lemmas.List.{replicate_more}
use Rattle.pp_numbers.specs.PpNo.{processor_count}
use Rattle.pp_steps.specs.HeldSpells.{no_spells}
use Rattle.pp_steps.proofs.spell_counts.without_spells.Goals as goal

pub loop-preserved : goal.loop-preserved
loop-preserved g c = c.in_ok-push.ensures.items ∙ rw (c.new.ensures, c.loop.invariant) (replicate_more c.loop.counter no_spells)

pub returns : goal.returns
returns g c = let all : c.loop.counter ≡ processor_count = omega arith in rw all at c.loop.invariant
