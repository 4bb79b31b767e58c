-- How far a processor has come in the spells in which it is held, which were counted before.
-- (Private contracts alone cite this.)
use Rattle.std.specs.Prelude.{◌+◌, List, slice_index_or, if◌then◌else◌}
use Rattle.pp_run.specs.RunSteps.{RunStep}
use Rattle.pp_steps.specs.HeldSpells.{Spells, each_after, is_held_with}
use Rattle.pp_steps.specs.declared.{cursor.Cursor.Cursor, cursor.LineKind.LineKind}
use Rattle.pp_steps.specs.declared.cursor.LineKind.TheVariants.{NoLine, OneStep, HeldSteps}
use Rattle.pp_run.specs.declared.progress.Progress.{Progress}
use Rattle.pp_run.specs.declared.progress.Progress.TheVariants.{AtRest, Moved, Held}

-- before the first step
abbrev pub no_cursor : Cursor
no_cursor = record { spells = 0; last = AtRest }

-- past a step
abbrev pub past_step : Cursor → Progress → Cursor
past_step cursor (Held flags) = record {
  spells = if is_held_with flags cursor.last then cursor.spells else cursor.spells + 1;
  last = Held flags;
}
past_step cursor step = record { spells = cursor.spells; last = step }

-- each processor's past some steps
abbrev pub each_cursor : List RunStep → List Cursor
each_cursor steps = each_after past_step no_cursor steps

-- the line of a step at a cursor, by the spells of the whole run
abbrev pub line_at : Spells → Cursor → Progress → LineKind
line_at spells cursor AtRest = NoLine
line_at spells cursor Moved = OneStep
line_at spells cursor (Held flags) = if is_held_with flags cursor.last then NoLine
    else HeldSteps (slice_index_or spells.counts cursor.spells spells.current)
