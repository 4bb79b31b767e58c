-- What the text of a machine says: which processors wait, and which words differ from the load.
use Rattle.std.specs.Prelude.{◌≡◌, ◌≢◌, ℕ, ◌+◌, true, false, ◌⊎◌, List, [], ◌∷◌, None, IsTrue, length, slice_index, slice_set}
use Rattle.pp_word.specs.Address.{place_count}
use Rattle.pp_channel.specs.Answer.{IsReady, only_looks}
use Rattle.pp_channel.specs.History.{active}
use Rattle.pp_channel.specs.declared.{chan_op.ChanOp.ChanOp, event.Event.Event}
use Rattle.pp_machine.specs.MachineState.{MachineState, history_of, processor_of}
use Rattle.pp_processor.specs.NeedAndEffect.{need}
use Rattle.pp_numbers.specs.PpNo.{names_processor}
use Rattle.pp_processor.specs.declared.need.Need.TheVariants.{Channel}
use Rattle.pp_deck.specs.DeckLine.{Line, central_words, words}

-- the next step of processor n needs an operation that does more than look, and channel c is not
-- ready for it. An inactive channel does not hold a block, but ends it
pub record IsHeldBy (n : ℕ) (m : MachineState) (c : ℕ) (operation : ChanOp) : Type 0 where
  pub needs : need (processor_of n m) ≡ Channel c operation
  pub acts : only_looks operation ≡ false
  pub not_ready : (e : Event) → ¬ IsReady (history_of c m) operation e
  pub no_end : ((processor_of n m).block ≡ None) ⊎ (active (history_of c m) ≡ true)

-- it waits for some channel
abbrev pub IsHeld : ℕ → MachineState → Type 0
IsHeld n m = (c : ℕ) × (operation : ChanOp) × IsHeldBy n m c operation

-- processor n of two machines, each with a word for each place
pub record AreMemories (n : ℕ) (before after : MachineState) : Type 0 where
  pub named : IsTrue (names_processor n)
  pub old : length (processor_of n before).memory ≡ place_count
  pub new : length (processor_of n after).memory ≡ place_count

-- words from a place on, each with its place
abbrev pub placed : ℕ → List ℕ → List (ℕ × ℕ)
placed place [] = []
placed place (w ∷ ws) = (place, w) ∷ placed (place + 1) ws

-- the words that a line sets, each with its place or address
abbrev pub words_set : Line → List (ℕ × ℕ)
words_set (words place ws) = placed place ws
words_set (central_words a ws) = placed a ws
words_set line = []

-- a memory in which such words are set, one after another
abbrev pub overwritten : List ℕ → List (ℕ × ℕ) → List ℕ
overwritten memory [] = memory
overwritten memory ((place, w) ∷ more) = overwritten (slice_set memory place w) more

-- another word stands at its place
abbrev pub IsNew : List ℕ → ℕ × ℕ → Type 0
IsNew memory (place, w) = slice_index memory place ≢ w
