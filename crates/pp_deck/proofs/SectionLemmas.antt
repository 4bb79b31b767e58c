-- One line more: what it changes, the section that it begins, and the processor that it is for.
use Rattle.std.proofs.Common.{◌≡◌, ℕ, Bool, true, false, cond, List, [], ◌∷◌, ◌++◌, length, take, get_or, Option, Some, None, refl, arith}
use Rattle.std.specs.Prelude.{filter_map, slice_set}
use Rattle.std.specs.List.{range_with_len}
use Rattle.std.proofs.lemmas.List.{take-append-le, take_at, get_or_append_left, get_or_push, length_push}
use Rattle.pp_deck.specs.DeckLine.{Line, nothing, central_words, section, start, words, dead_start}
use Rattle.pp_deck.specs.DeckLoad.{processor_in, section_of, is_for, lines_for}
use Rattle.pp_numbers.proofs.GrowingLists.{last_of, last_of_more, filter_map_more, filter_map_same, range_more}
use Rattle.pp_machine.specs.MachineState.{MachineState}
use Rattle.pp_processor.specs.Processor.{runs_from}
use Rattle.pp_numbers.specs.PpNo.{processor_index}
use Rattle.pp_deck.specs.Reading.{Progress, after_line, loaded_from, with_central_words, with_processor}

-- what a line changes in the machine, where this processor is the current one
abbrev pub machine_after : Option ℕ → Line → MachineState → MachineState
machine_after current (central_words a ws) m = with_central_words a ws m
machine_after current (start p a) m = with_processor current (runs_from p a) m
machine_after current (words x ws) m = with_processor current (loaded_from x ws) m
machine_after current line m = m

-- what it changes in the processors named
abbrev pub named_after : Line → List Bool → List Bool
named_after (section n) named = slice_set named (processor_index n) true
named_after line named = named

-- in the current processor
abbrev pub current_after : Line → Option ℕ → Option ℕ
current_after (section n) current = Some n
current_after line current = current

-- and in whether dead start was asked for
abbrev pub asked_after : Line → Bool → Bool
asked_after dead_start asked = true
asked_after line asked = asked

-- what one line more leaves, told by its parts
pub after_line_parts : (progress : Progress) (line : Line) → after_line progress line ≡ record { machine = machine_after progress.current line progress.machine; named = named_after line progress.named; current = current_after line progress.current; asks_dead_start = asked_after line progress.asks_dead_start }
unfolding after_line
after_line_parts progress line = grind arith

-- whether a line names processor n
abbrev pub names : ℕ → Line → Bool
names n line = is_for n (processor_in line)

-- the section after one line more
pub section_more : (lines : List Line) (line : Line) → section_of (lines ++ line ∷ []) ≡ current_after line (section_of lines)
unfolding section_of
section_more lines line = grind (arith, last_of, filter_map_more, last_of_more)

-- line k, where it is for processor n
pick : ℕ → List Line → ℕ → Option Line
pick n lines k = cond (is_for n (section_of (take k lines))) (Some (get_or lines k nothing)) None

-- a line, where it is for its processor
abbrev pub own : Bool → Line → List Line
own true line = line ∷ []
own false line = []

picks : ℕ → List Line → List Line
picks n lines = filter_map (pick n lines) (range_with_len 0 (length lines))

picks_are : (n : ℕ) (lines : List Line) → lines_for n lines ≡ picks n lines
unfolding lines_for picks pick
picks_are n lines = refl

picks_more : (n : ℕ) (lines : List Line) (line : Line) → picks n (lines ++ line ∷ []) ≡ picks n lines ++ own (is_for n (section_of lines)) line
unfolding picks pick
picks_more n lines line = grind (arith, pick, length_push, range_more, filter_map_more, filter_map_same, picks, take_at, get_or_push, take-append-le, get_or_append_left)

-- the lines for a processor, with one line more
pub lines_for_more : (n : ℕ) (lines : List Line) (line : Line) → lines_for n (lines ++ line ∷ []) ≡ lines_for n lines ++ own (is_for n (section_of lines)) line
lines_for_more n lines line = grind (arith, picks_are, picks_more, own)
