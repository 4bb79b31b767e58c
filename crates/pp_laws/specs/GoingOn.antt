-- A deck that goes on from the dump of another: what it has in common with the run that was not cut
-- in two.
use Rattle.std.specs.Prelude.{◌≡◌, ℕ, ◌+◌, ◌<◌, ◌^◌, List, ◌++◌, map}
use Rattle.pp_channel.specs.Answer.{channel_state}
use Rattle.pp_machine.specs.MachineState.{MachineState, history_of, processor_of}
use Rattle.pp_processor.specs.Processor.{Processor, IsAtRest}
use Rattle.pp_machine.specs.Run.{run}
use Rattle.pp_processor.specs.declared.pp_state.PpState.TheVariants.{Running}
use Rattle.pp_machine.specs.declared.trace.Trace.{Trace}
use Rattle.pp_listing.specs.RestOfOrder.{order_left}
use Rattle.pp_deck.specs.DeckMeaning.{LoadedDeck}
use Rattle.pp_sim.specs.TextOf.{after_turns, run_of}

-- an event, some turns later
abbrev pub later : ℕ → Trace → Trace
later turns entry = record entry { turn = turns + entry.turn }

-- two processors are at rest, with the same memory
pub record RestAlike (one other : Processor) : Type 0 where
  pub at_rest : IsAtRest one
  pub also : IsAtRest other
  pub memory : other.memory ≡ one.memory

-- A machine was dumped after some turns. One ran on from there, and another went on from the dump:
-- each processor that was running stands the same in both, and each other is at rest in both, with
-- the same memory; central memory has the same words, and each channel the same flags and the same
-- word in its register; and the events of the one, after those before the dump, are those of the
-- other, which count their turns from the dump on.
pub record GoesOnAs (turns : ℕ) (dumped one other : MachineState) : Type 0 where
  pub running : (n : ℕ) → (processor_of n dumped).state ≡ Running
      → processor_of n other ≡ processor_of n one
  pub at_rest : (n : ℕ) → IsAtRest (processor_of n dumped)
      → RestAlike (processor_of n one) (processor_of n other)
  pub central : other.central ≡ one.central
  pub channels : (c : ℕ) → channel_state (history_of c other) ≡ channel_state (history_of c one)
  pub events : one.trace ≡ dumped.trace ++ map (later turns) other.trace

-- GOING ON IS EXACT: a deck was dumped after some turns, and another loaded from the dump. In the
-- order that is left, the other makes any number of turns as the deck itself goes on.
abbrev pub GoesOnExactly : List ℕ → ℕ → LoadedDeck → LoadedDeck → Type 0
GoesOnExactly first turns deck loaded = (more : ℕ) → turns + more < 2 ^ 64
    → (let rest = order_left first deck.machine.profile turns in
    GoesOnAs turns (after_turns first turns deck).machine
    (run (run_of first (turns + more) deck) deck.machine)
    (run (run_of rest more loaded) loaded.machine))
