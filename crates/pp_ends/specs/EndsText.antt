-- How a run ends, in text: the ending; for each processor that is shown how it stands, and between
-- which places it loops; and the channels.
use Rattle.std.specs.Prelude.{ℕ, ◌<◌, ◌^◌, Bool, List, [], ◌++◌, Option, None, Some, codes, if◌then◌else◌}
use Rattle.std.specs.List.{flat_map}
use Rattle.pp_numbers.specs.ChannelNo.{all_channels}
use Rattle.pp_machine.specs.MachineState.{MachineState, processor_of}
use Rattle.pp_numbers.specs.PpNo.{all_processors, is_named}
use Rattle.pp_word.specs.Numeral.{decimal, octal, short_decimal}
use Rattle.pp_text.specs.PrintedText.{line_end, processor_line, used_channel_line}
use Rattle.pp_text.specs.Standing.{standing}
use Rattle.pp_ends.specs.Ending.{after_turns}
use Rattle.pp_ends.specs.Loops.{loop_of}
use Rattle.pp_ends.specs.declared.{ending.Ending.Ending, loops.Loop.Loop}
use Rattle.pp_ends.specs.declared.ending.Ending.TheVariants.{AtRest, GoingOn, Repeats, Stuck}

-- the turn that the text names, of a run of this many turns
abbrev pub ends_turn : Ending → ℕ → ℕ
ends_turn (AtRest from) turns = from
ends_turn (Stuck from) turns = from
ends_turn (Repeats from every) turns = from
ends_turn GoingOn turns = turns

-- how often it comes again, where it repeats
abbrev pub period_of : Ending → ℕ
period_of (Repeats from every) = every
period_of ending = 0

-- an ending fits its line: counts of 64 bits
pub record FitsItsEnding (ending : Ending) (turns : ℕ) : Type 0 where
  pub turn : ends_turn ending turns < 2 ^ 64
  pub period : period_of ending < 2 ^ 64

-- `REPEATS FROM 000010 EVERY 20`
abbrev pub ending_text : Ending → ℕ → List ℕ
ending_text (AtRest from) turns = codes "AT REST FROM " ++ decimal from
ending_text (Stuck from) turns = codes "STUCK FROM " ++ decimal from
ending_text (Repeats from every) turns =
    codes "REPEATS FROM " ++ decimal from ++ codes " EVERY " ++ short_decimal every
ending_text GoingOn turns = codes "GOING ON AT " ++ decimal turns

-- ` LOOPS 0100 TO 0101`, where there is a loop
abbrev pub loop_text : Option Loop → List ℕ
loop_text None = []
loop_text (Some loop) = codes " LOOPS " ++ octal 4 loop.first ++ codes " TO " ++ octal 4 loop.last

-- the line of processor n, if it is shown
abbrev pub looping_line : List Bool → MachineState → List (Option Loop) → ℕ → List ℕ
looping_line shown m loops n =
    if is_named shown n
    then processor_line n (processor_of n m) (standing n m 0 ++ loop_text (loop_of loops n)) else []

-- the text, by the machine after the turns that it names
unfoldable pub ends_text : List Bool → Ending → ℕ → MachineState → List (Option Loop) → List ℕ
ends_text shown ending turns m loops =
    ending_text ending turns ++ line_end
    ++ flat_map (looping_line shown m loops) all_processors
    ++ flat_map (used_channel_line m.histories) all_channels

-- and of a machine as it was loaded
abbrev pub ends_text_of : List Bool → Ending → ℕ → MachineState → List (Option Loop) → List ℕ
ends_text_of shown ending turns load loops =
    ends_text shown ending turns (after_turns (ends_turn ending turns) load) loops
