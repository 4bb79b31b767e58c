-- The listing of a deck: the lines that load it, printed.
use Rattle.std.specs.Prelude.{◌≡◌, ◌≤◌, Ok, ℕ, ◌+◌, ◌==◌, Bool, List, [], ◌∷◌, ◌++◌, length, slice_index, if◌then◌else◌}
use Rattle.std.specs.List.{flat_map, list_any, range_with_len}
use Rattle.pp_numbers.specs.ChannelNo.{all_channels}
use Rattle.pp_machine.specs.MachineState.{MachineState, processor_of, is_opened}
use Rattle.pp_processor.specs.Processor.{Processor, word_at}
use Rattle.pp_numbers.specs.PpNo.{all_processors, is_named}
use Rattle.pp_processor.specs.declared.pp_state.PpState.{PpState}
use Rattle.pp_processor.specs.declared.pp_state.PpState.TheVariants.{Running}
use Rattle.pp_deck.specs.DeckLine.{central_size, central_words, section, start, dead_start}
use Rattle.pp_deck.specs.DeckMeaning.{LoadedDeck, deck_meaning}
use Rattle.pp_text.specs.InstructionText.{is_long}
use Rattle.pp_listing.specs.ListedLine.{ListedLine, bare, one_word, two_words, text_of}

-- the instructions in words from a place on; after the last comes `first`, the word at 0000. A word
-- 0 begins no line
abbrev pub instruction_lines : ℕ → ℕ → List ℕ → List ListedLine
instruction_lines first place [] = []
instruction_lines first place (w ∷ []) = if w == 0 then [] else one_word place w first ∷ []
instruction_lines first place (w ∷ m ∷ ws) =
    if w == 0 then instruction_lines first (place + 1) (m ∷ ws)
    else if is_long w then two_words place w m ∷ instruction_lines first (place + 2) ws
    else one_word place w m ∷ instruction_lines first (place + 1) (m ∷ ws)

-- all those of a processor
abbrev pub instructions_listed : Processor → List ListedLine
instructions_listed pp = instruction_lines (word_at pp 0) 0 pp.memory

-- `START p a`, if a processor is running
abbrev pub start_line : PpState → ℕ → ℕ → List ListedLine
start_line Running p a = bare (start p a) ∷ []
start_line state p a = []

abbrev pub section_lines : ℕ → Processor → List ListedLine
section_lines n pp =
    bare (section n) ∷ instructions_listed pp ++ start_line pp.state pp.p pp.a

-- the section of processor n, if it is named
abbrev pub named_section : List Bool → MachineState → ℕ → List ListedLine
named_section named m n = if is_named named n then section_lines n (processor_of n m) else []

-- all sections, in order of number
abbrev pub sections : List Bool → MachineState → List ListedLine
sections named m = flat_map (named_section named m) all_processors

-- `CM a w`, if the central word is not 0
abbrev pub central_word_line : List ℕ → ℕ → List ListedLine
central_word_line central a =
    let w = slice_index central a in
    if w == 0 then [] else bare (central_words a (w ∷ [])) ∷ []

-- these lines in order of address
abbrev pub central_word_lines : List ℕ → List ListedLine
central_word_lines central =
    flat_map (central_word_line central) (range_with_len 0 (length central))

-- `DEAD`, if dead start opened a channel
abbrev pub dead_start_line : MachineState → List ListedLine
dead_start_line m = if list_any (λ c. is_opened c m) all_channels then bare dead_start ∷ [] else []

-- the lines of a deck
unfoldable pub listed : LoadedDeck → List ListedLine
listed deck = bare (central_size (length deck.machine.central))
    ∷ central_word_lines deck.machine.central
    ++ dead_start_line deck.machine ++ sections deck.named deck.machine

-- and their text
unfoldable pub listing : LoadedDeck → List ℕ
listing deck = text_of (listed deck)

-- a text no longer than a deck may be means this deck, for its profile, if some text does
abbrev pub ReadsBackAs : List ℕ → LoadedDeck → Type 0
ReadsBackAs text deck = (source : List ℕ) → deck_meaning deck.machine.profile source ≡ Ok deck
    → length text ≤ 1048576 → deck_meaning deck.machine.profile text ≡ Ok deck
