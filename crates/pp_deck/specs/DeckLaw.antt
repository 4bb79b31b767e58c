-- What holds of each loaded deck, by its lines one beside another: what the last line sets, holds.
use Rattle.std.specs.Prelude.{◌≡◌, ℕ, ◌+◌, ◌<◌, ◌↔◌, Contains, IsTrue, Bool, true, false, List, [], length, None, Some, slice_get, slice_index, slice_index_or}
use Rattle.pp_word.specs.Address.{place_count}
use Rattle.pp_numbers.specs.ChannelNo.{channel_count, names_channel}
use Rattle.pp_machine.specs.Headline.{opening_history}
use Rattle.pp_machine.specs.MachineState.{processor_of, history_of, is_opened}
use Rattle.pp_processor.specs.Processor.{Processor, word_at, waiting_on}
use Rattle.pp_numbers.specs.PpNo.{names_processor, processor_count, processor_index}
use Rattle.pp_numbers.specs.Profile.{has_processor}
use Rattle.pp_processor.specs.declared.pp_state.PpState.{PpState}
use Rattle.pp_numbers.specs.declared.profile.Profile.{Profile}
use Rattle.pp_deck.specs.DeckLine.{Line, nothing, central_words, section, start, words, dead_start}
use Rattle.pp_deck.specs.DeckMeaning.{LoadedDeck}

abbrev pub line_of : List Line → ℕ → Line
line_of lines k = slice_index_or lines k nothing

-- line k is for processor n: `PP n` stands before it, and no other `PP` line between the two
pub record IsFor (lines : List Line) (k n : ℕ) : Type 0 where
  pub heading : ℕ
  pub before : heading < k
  pub names : line_of lines heading ≡ section n
  pub latest : (i m : ℕ) → heading < i → i < k → line_of lines i ≡ section m → ⊥

-- if words stand from a first place on, w stands at this place
pub record StandsAt (first : ℕ) (ws : List ℕ) (place w : ℕ) : Type 0 where
  pub index : ℕ
  pub at_place : place ≡ first + index
  pub is_word : slice_get ws index ≡ Some w

abbrev pub SetsWord : Line → ℕ → ℕ → Type 0
SetsWord (words x ws) place w = StandsAt x ws place w
SetsWord line place w = ⊥

abbrev pub SetsCentralWord : Line → ℕ → ℕ → Type 0
SetsCentralWord (central_words a ws) address w = StandsAt a ws address w
SetsCentralWord line address w = ⊥

pub record Registers : Type 0 where
  pub state : PpState
  pub p : ℕ
  pub a : ℕ

abbrev pub registers_of : Processor → Registers
registers_of pp = record { state = pp.state; p = pp.p; a = pp.a }

abbrev pub at_rest : Registers
at_rest = record { state = PpState.Stopped; p = 0; a = 0 }

abbrev pub Starts : Line → Registers → Type 0
Starts (start p a) registers = registers ≡ record { state = PpState.Running; p = p; a = a }
Starts line registers = ⊥

-- a value is what the last line that sets it sets, and `otherwise` if no line does
pub record HoldsLast {A : Type 0} (lines : List Line) (Sets : ℕ → A → Type 0) (otherwise value : A)
    : Type 0 where
  pub last : (k : ℕ) (x : A) → k < length lines → Sets k x
      → ((j : ℕ) (y : A) → k < j → j < length lines → Sets j y → ⊥) → value ≡ x
  pub none : ((k : ℕ) (x : A) → k < length lines → Sets k x → ⊥) → value ≡ otherwise

-- processor n of such a machine waits: dead start is asked for, and no line names it
pub record WaitsAtDeadStart (profile : Profile) (lines : List Line) (n : ℕ) : Type 0 where
  pub processor : IsTrue (has_processor profile n)
  pub asked : Contains lines dead_start
  pub unnamed : Contains lines (section n) → ⊥

-- no processor is named that a machine of this profile lacks
abbrev pub NamesWithin : Profile → List Bool → Type 0
NamesWithin profile named = (n : ℕ) → IsTrue (names_processor n)
    → slice_index_or named (processor_index n) false ≡ true → IsTrue (has_processor profile n)

pub record KeepsDeckLaw (lines : List Line) (deck : LoadedDeck) : Type 0 where
  -- each place of a processor holds the word of the last line for it that sets the place, else 0
  pub places : (n place : ℕ) → IsTrue (names_processor n) → place < place_count
      → HoldsLast lines (λ k w. IsFor lines k n × SetsWord (line_of lines k) place w) 0
      (word_at (processor_of n deck.machine) place)
  -- the last start of a processor holds; without one it is stopped, unless it waits
  pub starts : (n : ℕ) → IsTrue (names_processor n)
      → (WaitsAtDeadStart deck.machine.profile lines n → ⊥)
      → HoldsLast lines (λ k registers. IsFor lines k n
      × Starts (line_of lines k) registers) at_rest (registers_of (processor_of n deck.machine))
  -- each central word is the word of the last line that sets it, else 0
  pub central : (address : ℕ) → address < length deck.machine.central
      → HoldsLast lines (λ k w. SetsCentralWord (line_of lines k) address w) 0
      (slice_index deck.machine.central address)
  -- a processor is named exactly if some line names it
  pub named : (n : ℕ) → IsTrue (names_processor n)
      → (slice_index_or deck.named (processor_index n) false ≡ true) ↔ Contains lines (section n)
  -- one that waits does so on the channel of its own number; in all others no block is in progress
  pub waits : (n : ℕ) → WaitsAtDeadStart deck.machine.profile lines n
      → processor_of n deck.machine ≡ waiting_on n (processor_of n deck.machine)
  pub no_block : (n : ℕ) → IsTrue (names_processor n)
      → (WaitsAtDeadStart deck.machine.profile lines n → ⊥)
      → (processor_of n deck.machine).block ≡ None
  -- exactly the channels of waiting processors are opened, and nothing else has happened
  pub opened : (c : ℕ) → IsTrue (names_channel c) → (is_opened c deck.machine ≡ true)
      ↔ WaitsAtDeadStart deck.machine.profile lines c
  pub history : (c : ℕ) → IsTrue (names_channel c)
      → history_of c deck.machine ≡ opening_history c deck.machine
  -- there are as many of each as the machine has
  pub each_processor : length deck.machine.processors ≡ processor_count
  pub each_name : length deck.named ≡ processor_count
  pub each_channel : length deck.machine.histories ≡ channel_count
  pub no_turn : deck.machine.turns ≡ 0
  pub no_event : deck.machine.trace ≡ []
