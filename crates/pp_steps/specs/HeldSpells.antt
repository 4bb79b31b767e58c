-- How long a processor is held, spell by spell.
use Rattle.std.specs.Prelude.{ℕ, ◌+◌, Bool, false, ◌&&◌, List, [], ◌∷◌, ◌++◌, if◌then◌else◌}
use Rattle.std.specs.Bool.{beq}
use Rattle.std.specs.List.{fold, prefix_len}
use Rattle.pp_channel.specs.declared.flags.Flags.{Flags}
use Rattle.pp_numbers.specs.PpNo.{each_processor}
use Rattle.pp_run.specs.RunSteps.{RunStep, seen_of}
use Rattle.pp_run.specs.BareMachine.{progress}
use Rattle.pp_run.specs.declared.progress.Progress.{Progress}
use Rattle.pp_run.specs.declared.progress.Progress.TheVariants.{AtRest, Held}

abbrev pub progress_of : RunStep → Progress
progress_of step = progress step.processor step.before

-- whether a step is held with these flags
abbrev pub is_held_with : Flags → Progress → Bool
is_held_with flags (Held others) = beq flags.active others.active && beq flags.full others.full
is_held_with flags step = false

-- whether a step is held like the last one
abbrev pub continues_spell : Progress → Progress → Bool
continues_spell last (Held flags) = is_held_with flags last
continues_spell last step = false

-- the last of some steps, or one at rest where there is none
abbrev pub last_of : List Progress → Progress
last_of steps = fold (λ last step. step) AtRest steps

-- the spells in which a processor was held so far: how many steps each took that is over, how many
-- the last, and the last step
pub record Spells : Type 0 where
  pub counts : List ℕ
  pub current : ℕ
  pub last : Progress

-- the last spell, with the steps that follow
abbrev pub current_spell : Progress → ℕ → List Progress → List ℕ
current_spell (Held flags) current steps = (current + prefix_len (is_held_with flags) steps) ∷ []
current_spell step current steps = []

-- with one step more
abbrev pub with_step : Spells → Progress → Spells
with_step spells step = record {
  counts =
      if continues_spell spells.last step then spells.counts
      else spells.counts ++ current_spell spells.last spells.current [];
  current = if continues_spell spells.last step then spells.current + 1 else 1;
  last = step;
}

-- a processor without steps
abbrev pub no_spells : Spells
no_spells = record { counts = []; current = 0; last = AtRest }

-- the steps of each processor, folded by `next` from `first`, in the order of the barrel. (Private
-- contracts alone cite this and what follows.)
abbrev pub each_after : {X : Type 0} → (X → Progress → X) → X → List RunStep → List X
each_after next first steps = each_processor (λ n. fold next first (seen_of progress_of n steps))

-- the spells of each processor in some steps
abbrev pub each_spells : List RunStep → List Spells
each_spells steps = each_after with_step no_spells steps
