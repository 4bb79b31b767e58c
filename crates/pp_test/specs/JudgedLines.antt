-- By which lines a deck is judged.
use Rattle.std.specs.Prelude.{◌≡◌, ℕ, List, ◌++◌}
use Rattle.pp_deck.specs.DeckMeaning.{LoadedDeck}
use Rattle.pp_lint.specs.LintText.{lint_text}
use Rattle.pp_test.specs.RunLines.{IsRunText}

-- THE LINES that a deck of these bytes is judged by: those of its run of N turns, in which these
-- processors come first, and then those of what is found in it
pub record IsJudgedText (bytes first : List ℕ) (turns : ℕ) (deck : LoadedDeck) (text : List ℕ) :
    Type 0 where
  pub run_text : List ℕ
  pub run_text_is : IsRunText first turns deck run_text
  pub text_is : text ≡ run_text ++ lint_text deck.machine.profile bytes
