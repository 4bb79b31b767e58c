-- What the lines of a deck load, taken all together: the last line that sets something holds.
use Rattle.std.specs.Prelude.{ℕ, ◌-◌, ◌==◌, Bool, true, false, List, length, take, Option, None, Some, slice_get, slice_index_or, unwrap_or, nat_le, filter_map, if◌then◌else◌}
use Rattle.std.specs.List.{last_or, list_any, range_with_len}
use Rattle.pp_numbers.specs.Tables.{tabulate}
use Rattle.pp_word.specs.Address.{place_count}
use Rattle.pp_machine.specs.MachineState.{MachineState, new_machine}
use Rattle.pp_processor.specs.Processor.{Processor, new_processor, runs_from}
use Rattle.pp_numbers.specs.PpNo.{each_processor}
use Rattle.pp_numbers.specs.declared.profile.Profile.{Profile}
use Rattle.pp_deck.specs.DeckLine.{Line, nothing, central_words, section, start, words, dead_start}

abbrev pub processor_in : Line → Option ℕ
processor_in (section n) = Some n
processor_in line = None

-- the processor of the last `PP` line among some
unfoldable pub section_of : List Line → Option ℕ
section_of lines = last_or None (filter_map processor_in lines)

abbrev pub is_for : ℕ → Option ℕ → Bool
is_for n (Some m) = n == m
is_for n None = false

-- the lines that are for processor n: those whose last `PP` line before is `PP n`
unfoldable pub lines_for : ℕ → List Line → List Line
lines_for n lines = filter_map (λ k. if is_for n (section_of (take k lines))
    then Some (slice_index_or lines k nothing) else None) (range_with_len 0 (length lines))

-- the word that stands at a place if words stand from a first place on
abbrev pub word_among : ℕ → List ℕ → ℕ → Option ℕ
word_among first ws place = if nat_le first place then slice_get ws (place - first) else None

abbrev pub word_for : ℕ → Line → Option ℕ
word_for place (words x ws) = word_among x ws place
word_for place line = None

abbrev pub central_word_for : ℕ → Line → Option ℕ
central_word_for address (central_words a ws) = word_among a ws address
central_word_for address line = None

-- the P and A at which a line starts its processor
abbrev pub start_in : Line → Option (ℕ × ℕ)
start_in (start p a) = Some (p, a)
start_in line = None

-- the memory that lines leave: each place holds the last word that they set there, else 0
unfoldable pub memory_of : List Line → List ℕ
memory_of lines =
    tabulate place_count (λ place. unwrap_or (last_or None (filter_map (word_for place) lines)) 0)

-- a processor of this profile with this memory: stopped, or running from its start
abbrev pub processor_with : Profile → List ℕ → Option (ℕ × ℕ) → Processor
processor_with profile memory None = record (new_processor profile) { memory = memory }
processor_with profile memory (Some s) =
    runs_from s.0 s.1 (record (new_processor profile) { memory = memory })

-- processor n as the lines for it leave it: the last start holds
unfoldable pub processor_loaded : Profile → List Line → ℕ → Processor
processor_loaded profile lines n = processor_with profile (memory_of (lines_for n lines))
    (last_or None (filter_map start_in (lines_for n lines)))

-- central memory of this size: each address holds the last word that a line sets there, else 0
unfoldable pub central_loaded : ℕ → List Line → List ℕ
central_loaded size lines = tabulate size
    (λ address. unwrap_or (last_or None (filter_map (central_word_for address) lines)) 0)

abbrev pub is_named : List Line → ℕ → Bool
is_named lines n = list_any (λ line. is_for n (processor_in line)) lines

abbrev pub is_dead_start : Line → Bool
is_dead_start dead_start = true
is_dead_start line = false

abbrev pub asks_dead_start : List Line → Bool
asks_dead_start lines = list_any is_dead_start lines

-- a machine of this profile and this central size with all that lines set, before any dead start
abbrev pub machine_loaded : Profile → ℕ → List Line → MachineState
machine_loaded profile size lines = record (new_machine profile size) {
  processors = each_processor (processor_loaded profile lines);
  central = central_loaded size lines;
}
