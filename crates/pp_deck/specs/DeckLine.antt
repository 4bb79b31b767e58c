-- What one line of a deck says, by its fields and by the lines before it.
use Rattle.std.specs.Prelude.{ℕ, ◌+◌, ◌&&◌, Bool, List, [], ◌∷◌, Result, Ok, Err, nat_lt, nat_le, codes, slice_index, if◌then◌else◌, bytes_eq}
use Rattle.std.specs.Char.{is_ascii_digit}
use Rattle.pp_word.specs.Address.{place_count}
use Rattle.pp_numbers.specs.Profile.{has_processor}
use Rattle.pp_numbers.specs.declared.profile.Profile.{Profile}
use Rattle.pp_deck.specs.DeckText.{Field, Fields}
use Rattle.pp_deck.specs.OctalNumber.{number}
use Rattle.pp_deck.specs.declared.{flaw.Flaw.Flaw, keyword.Keyword.Keyword}

-- what a line may say: nothing; `CENTRAL n`: central memory has n words; `CM a w w ..`: central
-- words from a on; `PP n`: what follows is for processor n; `START p a`: it starts at P = p with A
-- = a; `x w w ..`: its words from place x on; `DEAD`: dead start is asked for
pub data Line : Type 0 where
  nothing : Line
  central_size : ℕ → Line
  central_words : ℕ → List ℕ → Line
  section : ℕ → Line
  start : ℕ → ℕ → Line
  words : ℕ → List ℕ → Line
  dead_start : Line

-- what the first field is
unfoldable pub keyword_of : Field → Keyword
keyword_of field =
    if bytes_eq field (codes "CENTRAL") then Keyword.Central
    else if bytes_eq field (codes "CM") then Keyword.CentralWords
    else if bytes_eq field (codes "PP") then Keyword.Processor
    else if bytes_eq field (codes "START") then Keyword.Start
    else if bytes_eq field (codes "DEAD") then Keyword.DeadStart
    else if is_ascii_digit (slice_index field 0) then Keyword.Words
    else Keyword.Unknown

-- ---- the fields after it

infixl 10 ◌>>=◌
-- one thing after another, from left to right: the first flaw is the flaw of all
abbrev pub ◌>>=◌ : {A B : Type 0} → Result A Flaw → (A → Result B Flaw) → Result B Flaw
(Ok x) >>= next = next x
(Err flaw) >>= next = Err flaw

-- a number of at most `most` digits, which must be there, and what the fields after it say
abbrev pub number_then : ℕ → Fields → (ℕ → Fields → Result Line Flaw) → Result Line Flaw
number_then most [] next = Err Flaw.UnknownLine
number_then most (field ∷ fields) next = number most field >>= λ n. next n fields

-- the end of a line: one more field is one too many
abbrev pub ends_with : Line → Fields → Result Line Flaw
ends_with line [] = Ok line
ends_with line (field ∷ fields) = Err Flaw.UnknownLine

-- words of at most `most` digits, from a place on; one whose place is not below the end is past it
unfoldable pub words_in : ℕ → ℕ → ℕ → Flaw → Fields → Result (List ℕ) Flaw
words_in most place end past [] = Ok []
words_in most place end past (field ∷ fields) = do
  word ← number most field
  more ← if nat_lt place end then words_in most (place + 1) end past fields else Err past
  Ok (word ∷ more)

-- `CENTRAL n`: 1 to 400000 (octal) words
unfoldable pub central_line : Fields → Result Line Flaw
central_line fields = number_then 6 fields (λ n more. if nat_le 1 n && nat_le n 0o400000
    then ends_with (central_size n) more else Err Flaw.CentralRange)

-- `CM a w w ..` in a central memory of this size
unfoldable pub central_words_line : ℕ → Fields → Result Line Flaw
central_words_line size fields = number_then 6 fields
    (λ a more. words_in 20 a size Flaw.CentralRange more >>= λ ws. Ok (central_words a ws))

-- `PP n`, if the machine has processor n
unfoldable pub section_line : Profile → Fields → Result Line Flaw
section_line profile fields = number_then 2 fields (λ n more. if has_processor profile n
    then ends_with (section n) more else Err Flaw.BadProcessor)

-- `START p`, with A 0, or `START p a`
abbrev pub start_from : ℕ → Fields → Result Line Flaw
start_from p [] = Ok (start p 0)
start_from p (field ∷ fields) = number 6 field >>= λ a. ends_with (start p a) fields

unfoldable pub start_line : Fields → Result Line Flaw
start_line fields = number_then 4 fields start_from

-- `x w w ..`
unfoldable pub words_line : Field → Fields → Result Line Flaw
words_line field fields =
    number 4 field >>= λ x. words_in 4 x place_count Flaw.PastEnd fields >>= λ ws. Ok (words x ws)

-- what a line says by this keyword, for this profile and size of central memory, after lines of
-- which some have fields or begin with `PP`. `CENTRAL` comes before every line with fields, and
-- starts and words after a `PP`: a misplaced line has that flaw, whatever follows its first field
abbrev pub line_by : Profile → ℕ → Bool → Bool → Keyword → Field → Fields → Result Line Flaw
line_by _ _ is_after_fields _ Keyword.Central _ fields =
    if is_after_fields then Err Flaw.UnknownLine else central_line fields
line_by _ size _ _ Keyword.CentralWords _ fields = central_words_line size fields
line_by profile _ _ _ Keyword.Processor _ fields = section_line profile fields
line_by _ _ _ is_in_section Keyword.Start _ fields =
    if is_in_section then start_line fields else Err Flaw.NoProcessor
line_by _ _ _ _ Keyword.DeadStart _ fields = ends_with dead_start fields
line_by _ _ _ is_in_section Keyword.Words field fields =
    if is_in_section then words_line field fields else Err Flaw.NoProcessor
line_by _ _ _ _ Keyword.Unknown _ _ = Err Flaw.UnknownLine

-- what a line says after such lines, for this profile and this size of central memory
unfoldable pub line_after : Profile → ℕ → Bool → Bool → Fields → Result Line Flaw
line_after profile size is_after_fields is_in_section [] = Ok nothing
line_after profile size is_after_fields is_in_section (field ∷ fields) =
    line_by profile size is_after_fields is_in_section (keyword_of field) field fields
