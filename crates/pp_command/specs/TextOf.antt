-- How many turns a text is of, and the same text of a run of another number.
use Rattle.std.specs.Prelude.{ℕ}
use Rattle.pp_command.specs.declared.{text_of.TextOf.TextOf}
use Rattle.pp_command.specs.declared.text_of.TextOf.TheVariants.{Run}

-- the turns of its run; none where nothing is run, or every order of steps
abbrev pub turns_of : TextOf → ℕ
turns_of (Run turns view) = turns
turns_of other = 0

-- the same of a run of this many turns
abbrev pub with_turns : ℕ → TextOf → TextOf
with_turns turns (Run others view) = Run turns view
with_turns turns other = other
