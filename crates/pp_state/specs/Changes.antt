-- What differs from the load, as lines of a deck that set it: processors' and central words.
use Rattle.std.specs.Prelude.{ℕ, zero, suc, ◌+◌, ◌%◌, ◌==◌, ◌&&◌, Bool, List, [], ◌∷◌, length, slice_index, if◌then◌else◌}
use Rattle.std.specs.List.{flat_map, list_any, range_with_len}
use Rattle.pp_machine.specs.MachineState.{MachineState, processor_of}
use Rattle.pp_numbers.specs.PpNo.{all_processors}
use Rattle.pp_deck.specs.DeckLine.{Line, central_words, section, words}
use Rattle.pp_text.specs.Differences.{differs, places}

-- how many words are on a line before a place: none after one that does not differ, or after eight
unfoldable pub position_on_line : List ℕ → List ℕ → ℕ → ℕ
position_on_line before after zero = 0
position_on_line before after (suc place) =
    if differs before after place then (position_on_line before after place + 1) % 8 else 0

-- the words from a place on, as long as they differ, but at most this many
unfoldable pub neighbours : List ℕ → List ℕ → ℕ → ℕ → List ℕ
neighbours before after zero place = []
neighbours before after (suc most) place = if differs before after place
    then slice_index after place ∷ neighbours before after most (place + 1) else []

-- whether a line begins at a place
abbrev pub begins_line : List ℕ → List ℕ → ℕ → Bool
begins_line before after place =
    differs before after place && position_on_line before after place == 0

-- the line that begins at a place, if one does
abbrev pub line_from : List ℕ → List ℕ → ℕ → List Line
line_from before after place = if begins_line before after place
    then words place (neighbours before after 8 place) ∷ [] else []

abbrev pub changed_lines : List ℕ → List ℕ → List Line
changed_lines before after = flat_map (line_from before after) places

-- whether the word at some place differs
abbrev pub has_changes : List ℕ → List ℕ → Bool
has_changes before after = list_any (differs before after) places

-- `PP n` and the lines of its memory, where a word of it differs
abbrev pub changed_section : MachineState → MachineState → ℕ → List Line
changed_section before after n =
    let old = (processor_of n before).memory in
    let new = (processor_of n after).memory in
    if has_changes old new then section n ∷ changed_lines old new else []

-- the lines of all processors, in order of number
abbrev pub changed_sections : MachineState → MachineState → List Line
changed_sections before after = flat_map (changed_section before after) all_processors

-- the line of a central word, where it differs
abbrev pub central_line : List ℕ → List ℕ → ℕ → List Line
central_line before after a =
    if differs before after a then central_words a (slice_index after a ∷ []) ∷ [] else []

abbrev pub changed_central : List ℕ → List ℕ → List Line
changed_central before after =
    flat_map (central_line before after) (range_with_len 0 (length after))
