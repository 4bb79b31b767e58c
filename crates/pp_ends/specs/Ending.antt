-- How a run in the barrel ends, as far as its turns tell.
-- (Thornton, Design of a Computer: the processors take turns in a barrel. Manual 60100000, data
-- channels: a processor waits for a channel.)
use Rattle.std.specs.Prelude.{◌≡◌, ℕ, ◌+◌, ◌<◌, ◌≤◌, ◌%◌, Bool, IsTrue}
use Rattle.std.specs.Bool.{OnFalse}
use Rattle.pp_channel.specs.Answer.{channel_state}
use Rattle.pp_machine.specs.MachineState.{MachineState, processor_of, history_of}
use Rattle.pp_processor.specs.Processor.{IsAtRest}
use Rattle.pp_numbers.specs.Profile.{processor_in_turn, processors_in}
use Rattle.pp_machine.specs.Run.{barrel, run}
use Rattle.pp_processor.specs.declared.pp_state.PpState.TheVariants.{Running}
use Rattle.pp_run.specs.Determinacy.{IsQuiet, Waits}
use Rattle.pp_ends.specs.declared.ending.Ending.{Ending}
use Rattle.pp_ends.specs.declared.ending.Ending.TheVariants as endings
use Rattle.pp_ends.specs.declared.ending.Ending.TheVariants.{AtRest, GoingOn, Stuck}

-- a machine after this many turns of the barrel
abbrev pub after_turns : ℕ → MachineState → MachineState
after_turns turns m = run (barrel m.profile turns) m

-- the step of this turn waits, or else it moves
abbrev pub WaitsAt : ℕ → MachineState → Type 0
WaitsAt turn m = Waits (processor_in_turn m.profile turn) (after_turns turn m)

abbrev pub MovesAt : ℕ → MachineState → Type 0
MovesAt turn m = ¬ WaitsAt turn m

-- from turn t on no step of a run moves, and t is the first such turn
pub record IsStillFrom (t turns : ℕ) (m : MachineState) : Type 0 where
  pub within : t ≤ turns
  pub waits : (turn : ℕ) → t ≤ turn → turn < turns → WaitsAt turn m
  pub first : (turn : ℕ) → t ≡ turn + 1 → MovesAt turn m

-- it ends quiet: no step of any processor would move
pub record EndsQuietFrom (t turns : ℕ) (m : MachineState) : Type 0 where
  pub still : IsStillFrom t turns m
  pub quiet : IsQuiet (after_turns turns m)

-- AT REST: it ends quiet, with every processor stopped or at fault
pub record EndsAtRestFrom (t turns : ℕ) (m : MachineState) : Type 0 where
  pub ends : EndsQuietFrom t turns m
  pub at_rest : (n : ℕ) → IsAtRest (processor_of n (after_turns turns m))

-- STUCK: it ends quiet, and some processor is running: held, or at a jump to itself
pub record EndsStuckFrom (t turns : ℕ) (m : MachineState) : Type 0 where
  pub ends : EndsQuietFrom t turns m
  pub running : (n : ℕ) × ((processor_of n (after_turns turns m)).state ≡ Running)

-- two machines are the same, but for the turns counted
abbrev pub AreSameButTurns : MachineState → MachineState → Type 0
AreSameButTurns one other = other ≡ record one { turns = other.turns }

-- two machines stand alike, histories, trace and turns apart: of a channel its flags and the word
-- in its register count
pub record StandAlike (one other : MachineState) : Type 0 where
  pub processors : other.processors ≡ one.processors
  pub central : other.central ≡ one.central
  pub channels : (c : ℕ) → channel_state (history_of c other) ≡ channel_state (history_of c one)

-- REPEATS: the machine after t turns stands as after n more; both are whole rounds of the barrel
pub record Repeats (t n : ℕ) (m : MachineState) : Type 0 where
  pub some : 0 < n
  pub first_rounds : t % processors_in m.profile ≡ 0
  pub rounds : n % processors_in m.profile ≡ 0
  pub alike : StandAlike (after_turns t m) (after_turns (t + n) m)

-- and the first repetition within a run: t + n is least, and with it t
pub record FirstRepeats (t n turns : ℕ) (m : MachineState) : Type 0 where
  pub repeats : Repeats t n m
  pub within : t + n ≤ turns
  pub least : (u k : ℕ) → Repeats u k m → t + n ≤ u + k
  pub with_it : (u k : ℕ) → Repeats u k m → u + k ≡ t + n → t ≤ u

-- GOING ON: the run doesn't end quiet, and no repetition lies within it
pub record EndsGoingOn (turns : ℕ) (m : MachineState) : Type 0 where
  pub moves : ¬ IsQuiet (after_turns turns m)
  pub goes_on : (u k : ℕ) → u + k ≤ turns → ¬ Repeats u k m

-- how a run of N turns ends, as `Ending` names it
abbrev pub EndsWith : Ending → ℕ → MachineState → Type 0
EndsWith (AtRest from) turns m = EndsAtRestFrom from turns m
EndsWith (Stuck from) turns m = EndsStuckFrom from turns m
EndsWith (endings.Repeats from every) turns m =
    (¬ IsQuiet (after_turns turns m)) × FirstRepeats from every turns m
EndsWith GoingOn turns m = EndsGoingOn turns m

-- ---- cited by private contracts alone

-- a flag that is true where a step of processor n moves, false where it waits
pub record TellsMove (flag : Bool) (n : ℕ) (m : MachineState) : Type 0 where
  pub moves : IsTrue flag → ¬ Waits n m
  pub waits : OnFalse flag (Waits n m)

-- a flag that is true where some processor is running, false where each is stopped or at fault
pub record TellsRunning (flag : Bool) (m : MachineState) : Type 0 where
  pub running : IsTrue flag → (n : ℕ) × ((processor_of n m).state ≡ Running)
  pub at_rest : OnFalse flag ((n : ℕ) → IsAtRest (processor_of n m))
