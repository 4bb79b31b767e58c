-- Channels that one processor alone uses: a listing of the deck shows an instruction of it for the
-- channel, and no other processor has a word that would be one. Pointed at is the first instruction
-- for it in the lines of the processor. A function code goes to equipment, which needs no second
-- processor: nothing is said if the first sends one.
use Rattle.std.specs.Prelude.{ℕ, ◌+◌, ◌==◌, ◌&&◌, Bool, false, not, List, [], ◌∷◌, ◌++◌, codes, filter_map, Option, None, Some, Result, Ok, Err, if◌then◌else◌}
use Rattle.std.specs.List.{list_any}
use Rattle.pp_word.specs.Numeral.{octal, short_octal}
use Rattle.pp_numbers.specs.ChannelNo.{all_channels}
use Rattle.pp_numbers.specs.PpNo.{all_processors, is_named}
use Rattle.pp_numbers.specs.declared.profile.Profile.{Profile}
use Rattle.pp_machine.specs.MachineState.{is_opened, processor_of}
use Rattle.pp_deck.specs.DeckMeaning.{LoadedDeck}
use Rattle.pp_deck.specs.declared.deck_fault.DeckFault.{DeckFault}
use Rattle.pp_listing.specs.ListedLine.{ListedLine, bare, one_word, two_words}
use Rattle.pp_listing.specs.Listing.{instructions_listed}
use Rattle.pp_instructions.specs.InstructionEffect.{channel_named, sends_function}
use Rattle.pp_instructions.specs.declared.instruction.Instruction.{Instruction}
use Rattle.pp_lint.specs.Finding.{Finding}
use Rattle.pp_lint.specs.Given.{Note, first_line}
use Rattle.pp_lint.specs.StraightLine.{field_of, is_at}
use Rattle.pp_lint.specs.Warnings.{field_finding}
use Rattle.pp_lint.specs.declared.channel_use.ChannelUse.{ChannelUse}
use Rattle.pp_lint.specs.declared.row.Kind.TheVariants.{Channel}

-- whether a word is an instruction for channel c
abbrev pub is_for : Profile → ℕ → ℕ → Bool
is_for profile c word = is_at c (channel_named profile word)

-- that of a line of a listing
abbrev pub is_listed_for : Profile → ℕ → ListedLine → Bool
is_listed_for profile c (bare line) = false
is_listed_for profile c (one_word place word m) = is_for profile c word
is_listed_for profile c (two_words place word m) = is_for profile c word

-- whether the listing shows an instruction of processor n for channel c
unfoldable pub is_listed : LoadedDeck → ℕ → ℕ → Bool
is_listed deck c n = list_any (is_listed_for deck.machine.profile c)
    (instructions_listed (processor_of n deck.machine))

-- processor n, if the deck names it and it has a word that would be an instruction for channel c
unfoldable pub user : LoadedDeck → ℕ → ℕ → Option ℕ
user deck c n = if is_named deck.named n
    && list_any (is_for deck.machine.profile c) (processor_of n deck.machine).memory
    then Some n else None

-- of these processors, the only one, if the listing shows an instruction of it for channel c
abbrev pub use_of_one : LoadedDeck → ℕ → List ℕ → Option ChannelUse
use_of_one deck c (n ∷ []) =
    if is_listed deck c n then Some (record { n = n; c = c }) else None
use_of_one deck c ns = None

-- of the only processor for a channel, which no dead start opens
unfoldable pub alone_use : LoadedDeck → ℕ → Option ChannelUse
alone_use deck c = if is_opened c deck.machine then None
    else use_of_one deck c (filter_map (user deck c) all_processors)

-- of all channels, in order of number
unfoldable pub alone_uses : LoadedDeck → List ChannelUse
alone_uses deck = filter_map (alone_use deck) all_channels

-- a deck with a fault is not loaded, and has none
abbrev pub alone_uses_in : Result LoadedDeck DeckFault → List ChannelUse
alone_uses_in (Ok deck) = alone_uses deck
alone_uses_in (Err fault) = []

unfoldable pub alone_text : ℕ → ℕ → List ℕ
alone_text n c = codes "channel " ++ octal 2 c ++ codes " is used by PP " ++ short_octal 2 n
    ++ codes " alone"

-- whether processor n alone uses channel c
abbrev pub is_alone : List ChannelUse → ℕ → ℕ → Bool
is_alone uses n c = list_any (λ one. one.n == n && one.c == c) uses

-- whether an instruction for channel c, in line k of processor n, is its first in the deck: this is
-- the first line that has one, and the instructions before it in the line are for others
abbrev pub is_first : Profile → ℕ → List Note → ℕ → List Instruction → ℕ → Bool
is_first profile k notes n before c = is_at (k + 1) (first_line notes (Channel n) c)
    && not (list_any (λ i. is_for profile c i.word) before)

-- what is found in an instruction, by the channel that it is for
abbrev pub found_for : ℕ → List ℕ → (ℕ → Bool) → ℕ → ℕ → Instruction → Option ℕ → List Finding
found_for k line is_found n first i None = []
found_for k line is_found n first i (Some c) = if is_found c
    then field_finding (k + 1) line (field_of first i) (alone_text n c) ∷ [] else []

-- what is found in an instruction of processor n, in line k, whose first word is that of place
-- `first`: these instructions are before it in the line
unfoldable pub alone_finding : Profile → ℕ → List ℕ → List Note → List ChannelUse → ℕ → ℕ
    → List Instruction → Instruction → List Finding
alone_finding profile k line notes uses n first before i =
    found_for k line (λ c. is_first profile k notes n before c && is_alone uses n c
    && not (sends_function i.word)) n first i (channel_named profile i.word)
