-- The expectations of a deck: comments that begin with `*=`, of what has to be, or with `*!`, of
-- what must not be.
use Rattle.std.specs.Prelude.{ℕ, ◌+◌, ◌||◌, Bool, List, [], ◌∷◌, ◌++◌, bytes_eq, codes, drop, not, take, if◌then◌else◌}
use Rattle.std.specs.List.{position_or_len, slice_split}
use Rattle.std.specs.Str.Lines.{strip_carriage_return}
use Rattle.pp_deck.specs.DeckText.{Fields, fields_of, is_blank, is_line_feed}

-- an expectation: the number of its line, counted from 1, and its text, from the `*` on
pub record Expectation : Type 0 where
  pub line : ℕ
  pub text : List ℕ

-- whether a text says what has to be, and whether it says what must not be
abbrev pub is_wanted : List ℕ → Bool
is_wanted text = bytes_eq (take 2 text) (codes "*=")

abbrev pub is_unwanted : List ℕ → Bool
is_unwanted text = bytes_eq (take 2 text) (codes "*!")

-- its words: what stands between blanks after these two characters, up to a `*` that begins a word
abbrev pub words_of : List ℕ → Fields
words_of text = fields_of (drop 2 text)

-- a line from its first character on that is not blank, without the CR at its end
abbrev pub text_of_line : List ℕ → List ℕ
text_of_line line = let text = strip_carriage_return line in
    drop (position_or_len (λ byte. not (is_blank byte)) text) text

-- the expectation in a line of this number, if it is one
unfoldable pub expectation_in : ℕ → List ℕ → List Expectation
expectation_in number line = let text = text_of_line line in if is_wanted text || is_unwanted text
    then record { line = number; text = text } ∷ [] else []

-- those in lines, of which the first has this number
abbrev pub expectations_from : ℕ → List (List ℕ) → List Expectation
expectations_from number [] = []
expectations_from number (line ∷ lines) =
    expectation_in number line ++ expectations_from (number + 1) lines

unfoldable pub expectations : List ℕ → List Expectation
expectations deck = expectations_from 1 (slice_split is_line_feed deck)
