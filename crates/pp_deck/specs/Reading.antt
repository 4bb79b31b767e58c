-- A deck as far as it has been read, and what one more line changes: its meaning, line by line.
use Rattle.std.specs.Prelude.{◌≡◌, ℕ, ◌+◌, Bool, true, false, List, [], ◌∷◌, Option, None, Some, Result, Ok, Err, slice_set, replicate, fold}
use Rattle.pp_machine.specs.MachineState.{MachineState, processor_of, new_machine}
use Rattle.pp_processor.specs.Processor.{Processor, runs_from}
use Rattle.pp_numbers.specs.PpNo.{processor_count, processor_index}
use Rattle.pp_numbers.specs.declared.profile.Profile.{Profile}
use Rattle.pp_deck.specs.DeckLine.{Line, central_line, central_size, central_words, keyword_of, section, start, words, dead_start}
use Rattle.pp_deck.specs.DeckLoad.{section_of, asks_dead_start}
use Rattle.pp_deck.specs.DeckMeaning.{LoadedDeck, set_by}
use Rattle.pp_deck.specs.DeckText.{Fields}
use Rattle.pp_deck.specs.declared.{flaw.Flaw.Flaw, keyword.Keyword.Keyword}

-- machine and names so far, whose section it is, and whether dead start was asked for
pub record Progress : Type 0 where
  pub machine : MachineState
  pub named : List Bool
  pub current : Option ℕ
  pub asks_dead_start : Bool

-- before the first line, for a machine of this profile with central memory of this size
unfoldable pub before_lines : Profile → ℕ → Progress
before_lines profile size = record {
  machine = new_machine profile size;
  named = replicate processor_count false;
  current = None;
  asks_dead_start = false;
}

-- a memory in which words come to a place and those after it
abbrev pub with_words : ℕ → List ℕ → List ℕ → List ℕ
with_words place [] memory = memory
with_words place (w ∷ ws) memory = with_words (place + 1) ws (slice_set memory place w)

-- a processor with words from place x on
abbrev pub loaded_from : ℕ → List ℕ → Processor → Processor
loaded_from x ws pp = record pp { memory = with_words x ws pp.memory }

-- a machine in which processor n has changed, if there is one
abbrev pub with_processor : Option ℕ → (Processor → Processor) → MachineState → MachineState
with_processor None change m = m
with_processor (Some n) change m =
    record m { processors = slice_set m.processors (processor_index n) (change (processor_of n m)) }

-- a machine with central words from address a on
abbrev pub with_central_words : ℕ → List ℕ → MachineState → MachineState
with_central_words a ws m = record m { central = with_words a ws m.central }

-- what one more line leaves: the processor that it names is then the current one
unfoldable pub after_line : Progress → Line → Progress
after_line progress (central_words a ws) =
    record progress { machine = with_central_words a ws progress.machine }
after_line progress (section n) =
    record progress { named = slice_set progress.named (processor_index n) true; current = Some n }
after_line progress (start p a) =
    record progress { machine = with_processor progress.current (runs_from p a) progress.machine }
after_line progress (words x ws) = record progress {
  machine = with_processor progress.current (loaded_from x ws) progress.machine;
}
after_line progress dead_start = record progress { asks_dead_start = true }
after_line progress line = progress

-- what lines leave that are read one after another, for such a machine
unfoldable pub after_lines : Profile → ℕ → List Line → Progress
after_lines profile size lines = fold after_line (before_lines profile size) lines

-- the same without an order of reading, from the whole list of lines
unfoldable pub progress_of : Profile → ℕ → List Line → Progress
progress_of profile size lines = record {
  machine = (set_by profile size lines).machine;
  named = (set_by profile size lines).named;
  current = section_of lines;
  asks_dead_start = asks_dead_start lines;
}

-- what was set and named so far, as a deck
abbrev pub deck_so_far : Progress → LoadedDeck
deck_so_far progress = record { machine = progress.machine; named = progress.named }

-- something that was read, put to use; a flaw stays
abbrev pub on_read : {A B : Type 0} → (A → B) → Result A Flaw → Result B Flaw
on_read use_of (Ok x) = Ok (use_of x)
on_read use_of (Err flaw) = Err flaw

-- a call that leaves this value, or met a flaw, has read what was to be read
abbrev pub Leaves : {A : Type 0} → A → Result (Unit {0}) Flaw → Result A Flaw → Type 0
Leaves left (Ok done) read = read ≡ Ok left
Leaves left (Err flaw) read = read ≡ Err flaw

abbrev pub IsStatedBy : Result ℕ Flaw → Keyword → Fields → Type 0
IsStatedBy size Keyword.Central fields = central_line fields ≡ on_read central_size size
IsStatedBy size keyword fields = size ≡ Ok 0o10000

-- a size is that which the first line with fields states, where that is no `CENTRAL` line the size
-- of a deck that states none; or the flaw is that of the line
abbrev pub IsStated : Result ℕ Flaw → Option Fields → Type 0
IsStated size (Some (first ∷ fields)) = IsStatedBy size (keyword_of first) fields
IsStated size line = size ≡ Ok 0o10000
