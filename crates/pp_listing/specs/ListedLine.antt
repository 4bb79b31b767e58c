-- A line of a listing: a line of a deck as it is printed, with the instruction that its words are
-- as a comment. Characters are ASCII codes: LF is 10, a space is 32 (decimal).
use Rattle.std.specs.Prelude.{ℕ, List, [], ◌∷◌, ◌++◌, codes, if◌then◌else◌}
use Rattle.std.specs.List.{flat_map}
use Rattle.pp_deck.specs.DeckLine.{Line, nothing, central_size, central_words, section, start, words, dead_start}
use Rattle.pp_text.specs.InstructionText.{instruction_text}
use Rattle.pp_word.specs.Numeral.{octal, short_octal}
use Rattle.pp_text.specs.PrintedText.{line_end, padded}
use Rattle.pp_listing.specs.declared.listed_instructions.ListedInstruction.{ListedInstruction}

-- a number in exactly `width` digits, after a blank
abbrev pub after_blank : ℕ → ℕ → List ℕ
after_blank width n = 32 ∷ octal width n

-- a line, printed: places, words and starts in all digits, other numbers without leading zeros
abbrev pub line_text : Line → List ℕ
line_text nothing = []
line_text (central_size n) = codes "CENTRAL " ++ short_octal 6 n
line_text (central_words a ws) = codes "CM " ++ short_octal 6 a ++ flat_map (after_blank 20) ws
line_text (section n) = codes "PP " ++ short_octal 2 n
line_text (start p a) = codes "START" ++ after_blank 4 p ++ after_blank 6 a
line_text (words x ws) = octal 4 x ++ flat_map (after_blank 4) ws
line_text dead_start = codes "DEAD"

-- the same as a line of a text
abbrev pub deck_line : Line → List ℕ
deck_line line = line_text line ++ line_end

-- a line of a deck as it stands, or an instruction: its place, its word and the next word, of which
-- the first or both stand on the line
pub data ListedLine : Type 0 where
  bare : Line → ListedLine
  one_word : ℕ → ℕ → ℕ → ListedLine
  two_words : ℕ → ℕ → ℕ → ListedLine

-- an instruction as a line
abbrev pub listed_line : ListedInstruction → ListedLine
listed_line i =
    if i.has_second then two_words i.place i.word i.next else one_word i.place i.word i.next

-- what it says as a line of a deck
abbrev pub says : ListedLine → Line
says (bare line) = line
says (one_word place word m) = words place (word ∷ [])
says (two_words place word m) = words place (word ∷ m ∷ [])

-- an instruction stands after the words that it is
abbrev pub commented : Line → List ℕ → List ℕ
commented line instruction = padded 20 (line_text line) ++ codes "* " ++ instruction

-- printed: `0101 5050 0200      * LDM 0200,50`
abbrev pub listed_text : ListedLine → List ℕ
listed_text (bare line) = line_text line
listed_text (one_word place word m) =
    commented (words place (word ∷ [])) (instruction_text place word m)
listed_text (two_words place word m) =
    commented (words place (word ∷ m ∷ [])) (instruction_text place word m)

-- the same as a line of a text
abbrev pub text_line : ListedLine → List ℕ
text_line line = listed_text line ++ line_end

-- the text of some lines
abbrev pub text_of : List ListedLine → List ℕ
text_of lines = flat_map text_line lines
