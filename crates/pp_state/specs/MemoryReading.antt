-- Words read off a text by its columns.
use Rattle.std.specs.Prelude.{ℕ, ◌+◌, ◌-◌, ◌*◌, ◌%◌, ◌==◌, List, [], ◌∷◌}
use Rattle.std.specs.List.{filter}
use Rattle.std.specs.Str.Lines.{lines}
use Rattle.pp_text.specs.InstructionRead.{number_in}

-- of lines, the number in some columns of the first, or 0 where there is none
abbrev pub number_on : ℕ → ℕ → List (List ℕ) → ℕ
number_on column width [] = 0
number_on column width (line ∷ others) = number_in column width line

-- the lines of a text that begin with this number
abbrev pub lines_of : ℕ → ℕ → List ℕ → List (List ℕ)
lines_of width n text = filter (λ line. number_in 0 width line == n) (lines text)

-- the word at a place: it stands on the line of the eight places that it is one of
abbrev pub word_read : ℕ → List ℕ → ℕ
word_read place text = number_on (6 + place % 8 * 5) 4 (lines_of 4 (place - place % 8) text)

-- the central word at an address
abbrev pub central_word_read : ℕ → List ℕ → ℕ
central_word_read a text = number_on 8 20 (lines_of 6 a text)
