-- Between which places a processor loops.
use Rattle.std.specs.Prelude.{◌≡◌, ℕ, ◌+◌, ◌<◌, ◌≤◌, Bool, IsTrue, List, Option, None, Some, max, min, if◌then◌else◌, slice_index_or, slice_set}
use Rattle.pp_machine.specs.MachineState.{MachineState, processor_of}
use Rattle.pp_numbers.specs.PpNo.{names_processor, processor_index}
use Rattle.pp_numbers.specs.Profile.{processor_in_turn}
use Rattle.pp_ends.specs.Ending.{MovesAt, after_turns}
use Rattle.pp_ends.specs.declared.{ending.Ending.Ending, loops.Loop.Loop}
use Rattle.pp_ends.specs.declared.ending.Ending.TheVariants as endings

-- a turn lies from turn `from` on and before turn `to`, and in it processor n moves
pub record MovesIn (n from to turn : ℕ) (m : MachineState) : Type 0 where
  pub from_on : from ≤ turn
  pub before : turn < to
  pub own : processor_in_turn m.profile turn ≡ n
  pub moves : MovesAt turn m

-- P of a processor before this turn
abbrev pub place_at : ℕ → ℕ → MachineState → ℕ
place_at n turn m = (processor_of n (after_turns turn m)).p

-- the lowest and the highest P of the steps of processor n that move in these turns
pub record IsLoop (loop : Loop) (n from to : ℕ) (m : MachineState) : Type 0 where
  pub lowest : (turn : ℕ) × MovesIn n from to turn m × (place_at n turn m ≡ loop.first)
  pub highest : (turn : ℕ) × MovesIn n from to turn m × (place_at n turn m ≡ loop.last)
  pub least : (turn : ℕ) → MovesIn n from to turn m → loop.first ≤ place_at n turn m
  pub most : (turn : ℕ) → MovesIn n from to turn m → place_at n turn m ≤ loop.last

-- the loop of a processor, if it moves in these turns
abbrev pub TellsLoop : Option Loop → ℕ → ℕ → ℕ → MachineState → Type 0
TellsLoop None n from to m = (turn : ℕ) → ¬ MovesIn n from to turn m
TellsLoop (Some loop) n from to m = IsLoop loop n from to m

-- the loop of the processor with this number, in a list in the order of the barrel
abbrev pub loop_of : List (Option Loop) → ℕ → Option Loop
loop_of loops n = slice_index_or loops (processor_index n) None

-- the loops of all processors in these turns
abbrev pub TellLoops : List (Option Loop) → ℕ → ℕ → MachineState → Type 0
TellLoops loops from to m =
    (n : ℕ) → IsTrue (names_processor n) → TellsLoop (loop_of loops n) n from to m

-- THE LOOPS of an ending: those of one period where the run repeats, else none
abbrev pub AreLoops : List (Option Loop) → Ending → MachineState → Type 0
AreLoops loops (endings.Repeats from every) m = TellLoops loops from (from + every) m
AreLoops loops ending m = (n : ℕ) → IsTrue (names_processor n) → loop_of loops n ≡ None

-- ---- cited by private contracts alone

-- a loop with one more place
abbrev pub widened : Option Loop → ℕ → Loop
widened None p = record { first = p; last = p }
widened (Some loop) p = record { first = min loop.first p; last = max loop.last p }

-- the loops after a step of processor n, which stood at P before, by whether the step moved
abbrev pub noted : List (Option Loop) → ℕ → ℕ → Bool → List (Option Loop)
noted loops n p moved =
    if moved then slice_set loops (processor_index n) (Some (widened (loop_of loops n) p))
    else loops
