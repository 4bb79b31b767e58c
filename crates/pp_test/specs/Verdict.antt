-- Whether lines are as a deck expects, and what is said of it.
use Rattle.std.specs.Prelude.{◌≡◌, ℕ, ◌==◌, ◌&&◌, Bool, true, false, not, All, List, ◌++◌, codes, filter, length, take, if◌then◌else◌}
use Rattle.std.specs.List.{Any, flat_map, list_any, slice_split}
use Rattle.pp_word.specs.Numeral.{short_decimal}
use Rattle.pp_deck.specs.DeckText.{Fields, fields_of, is_line_feed}
use Rattle.pp_text.specs.PrintedText.{line_end}
use Rattle.pp_test.specs.Expectations.{Expectation, expectations, is_wanted, words_of}
use Rattle.pp_test.specs.Nearest.{begin, nearest}

-- the lines of a text; what comes after the last LF is a line too
abbrev pub lines_in : List ℕ → List (List ℕ)
lines_in text = slice_split is_line_feed text

-- whether an expectation fails: its words begin no line, or begin one and must not
abbrev pub fails : List (List ℕ) → Expectation → Bool
fails lines e = let begins_some = list_any (begin (words_of e.text)) lines in
    if is_wanted e.text then not begins_some else begins_some

abbrev pub failures : List (List ℕ) → List Expectation → List Expectation
failures lines expected = filter (fails lines) expected

-- what is said before the line that is nearest: if it must not be, it is there
abbrev pub near_heading : Bool → List ℕ
near_heading wanted = if wanted then codes "  nearest: " else codes "  there is: "

-- `7: *= PP00 P=0103`, and under it the line that is nearest
unfoldable pub failure_text : List (List ℕ) → Expectation → List ℕ
failure_text lines e = short_decimal e.line ++ codes ": " ++ e.text ++ line_end
    ++ near_heading (is_wanted e.text) ++ nearest (words_of e.text) lines ++ line_end

-- `HELD 5`, `FAILED 2 OF 5`, or that there is none, by how many there are and how many failed
abbrev pub last_words : ℕ → ℕ → List ℕ
last_words count failed = if count == 0 then codes "no expectations"
    else if failed == 0 then codes "HELD " ++ short_decimal count
    else codes "FAILED " ++ short_decimal failed ++ codes " OF " ++ short_decimal count

-- THE VERDICT on the lines of a text: what of the deck's expectations failed, and how many
unfoldable pub verdict : List ℕ → List ℕ → List ℕ
verdict deck text = let expected = expectations deck in
    let failed = failures (lines_in text) expected in
    flat_map (failure_text (lines_in text)) failed
    ++ last_words (length expected) (length failed) ++ line_end

-- whether there are expectations, and all held
unfoldable pub is_held : List ℕ → List ℕ → Bool
is_held deck text = let expected = expectations deck in
    not (length expected == 0) && length (failures (lines_in text) expected) == 0

-- ---- what that means

-- the fields in front of a line are these words
abbrev pub BeginsWith : Fields → List ℕ → Type 0
BeginsWith words line = take (length words) (fields_of line) ≡ words

-- what has to be begins some line, and what must not be none
pub record Holds (lines : List (List ℕ)) (e : Expectation) : Type 0 where
  pub wanted : is_wanted e.text ≡ true → Any (BeginsWith (words_of e.text)) lines
  pub unwanted : is_wanted e.text ≡ false
      → All (λ line. ¬ BeginsWith (words_of e.text) line) lines
