-- An expectation as it is read from a line.
use Rattle.std.specs.Prelude.{◌≡◌, ℕ, ◌||◌, Bool, true, false, List, Option, None, Some, drop}
use Rattle.pp_test.specs.Expectations.{is_unwanted, is_wanted, text_of_line}
use Rattle.pp_test.specs.declared.expectation.Expected.{Expected}

-- whether a line has one
abbrev pub has_expectation : List ℕ → Bool
has_expectation line = is_wanted (text_of_line line) || is_unwanted (text_of_line line)

-- these are the text of a line, what comes after its first two characters, and what these say
pub record IsExpected (expected : Expected) (line : List ℕ) : Type 0 where
  pub text : expected.text.now ≡ text_of_line line
  pub words : expected.words.now ≡ drop 2 (text_of_line line)
  pub wanted : expected.is_wanted ≡ is_wanted (text_of_line line)
  pub begins : has_expectation line ≡ true

-- or the line is none
abbrev pub IsRead : Option Expected → List ℕ → Type 0
IsRead (Some expected) line = IsExpected expected line
IsRead None line = has_expectation line ≡ false
