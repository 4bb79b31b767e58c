-- Whether a deck is as it expects over every order of its steps, and what is said of it.
use Rattle.std.specs.Prelude.{◌≡◌, ◌≢◌, ◌⊎◌, ℕ, ◌==◌, ◌<◌, All, Bool, true, false, not, List, [], ◌++◌, codes, length, slice_index_or, take, if◌then◌else◌}
use Rattle.pp_word.specs.Numeral.{short_decimal}
use Rattle.pp_machine.specs.Run.{run}
use Rattle.pp_deck.specs.DeckMeaning.{LoadedDeck}
use Rattle.pp_ends.specs.Ending.{StandAlike}
use Rattle.pp_text.specs.PrintedText.{line_end}
use Rattle.pp_orders.specs.Endings.{AreAllEndings, AreEndings, CanBeListed, LeadsTo}
use Rattle.pp_endings.specs.EndingsText.{order_line}
use Rattle.pp_test.specs.Expectations.{expectations}
use Rattle.pp_test.specs.JudgedLines.{IsJudgedText}
use Rattle.pp_test.specs.Verdict.{Holds, is_held, last_words, lines_in, verdict}

-- the lines of an ending: those of the run of just the steps of the order that leads into it, and
-- of what is found in the deck of these bytes
abbrev pub AreLinesAfter : List ℕ → LoadedDeck → List ℕ → List ℕ → Type 0
AreLinesAfter bytes deck order text = IsJudgedText bytes order (length order) deck text

-- they are as these bytes, of which the deck is, expect
abbrev pub IsHeldAfter : List ℕ → LoadedDeck → List ℕ → Type 0
IsHeldAfter bytes deck order =
    (lines : List ℕ) × AreLinesAfter bytes deck order lines × (is_held bytes lines ≡ true)

abbrev pub ending_word : ℕ → List ℕ
ending_word endings = if endings == 1 then codes " ENDING" else codes " ENDINGS"

abbrev pub or_more : Bool → List ℕ
or_more more = if more then codes " OR MORE" else []

-- `HELD 5 IN 2 ENDINGS`, or `HELD 5 IN 2 ENDINGS OR MORE`
abbrev pub held_line : ℕ → ℕ → Bool → List ℕ
held_line count endings more = codes "HELD " ++ short_decimal count ++ codes " IN "
    ++ short_decimal endings ++ ending_word endings
    ++ or_more more ++ line_end

-- all that is expected holds in each ending that one of these orders leads into
pub record EachHolds (bytes : List ℕ) (deck : LoadedDeck) (orders : List (List ℕ)) (more : Bool)
    (text : List ℕ) : Type 0 where
  pub each : All (IsHeldAfter bytes deck) orders
  pub text_is : text ≡ held_line (length (expectations bytes)) (length orders) more

-- in some it does not: the first of these is shown, with what failed there
pub record FirstFails (bytes : List ℕ) (deck : LoadedDeck) (orders : List (List ℕ))
    (text : List ℕ) : Type 0 where
  pub place : ℕ
  pub within : place < length orders
  pub before : All (IsHeldAfter bytes deck) (take place orders)
  pub lines : List ℕ
  pub lines_are : AreLinesAfter bytes deck (slice_index_or orders place []) lines
  pub fails : is_held bytes lines ≡ false
  pub text_is : text ≡ order_line (slice_index_or orders place []) ++ verdict bytes lines

-- what is said of these endings, beside which there may be more; and whether that is that all
-- holds, in every ending there is
abbrev pub IsSaid : List ℕ → LoadedDeck → List (List ℕ) → Bool → Bool → List ℕ → Type 0
IsSaid bytes deck orders more held text =
    (EachHolds bytes deck orders more text × (held ≡ not more))
    ⊎ (FirstFails bytes deck orders text × (held ≡ false))

-- THE VERDICT on every ending of a loaded deck, that these bytes mean: it is said of orders that
-- lead to endings, no two to the same; unless there may be more, every order of steps can go on
-- into one of these endings
pub record JudgesEndings (bytes : List ℕ) (deck : LoadedDeck) (held : Bool) (text : List ℕ) :
    Type 0 where
  pub expects : expectations bytes ≢ []
  pub orders : List (List ℕ)
  pub more : Bool
  pub listed : All (CanBeListed deck.machine.profile) orders
  pub endings : AreEndings deck.machine orders
  pub all : more ≡ false → AreAllEndings deck.machine orders
  pub said : IsSaid bytes deck orders more held text

-- or nothing is expected
pub record ExpectsNothing (bytes : List ℕ) (held : Bool) (text : List ℕ) : Type 0 where
  pub none : expectations bytes ≡ []
  pub held_is : held ≡ false
  pub text_is : text ≡ last_words 0 0 ++ line_end

abbrev pub IsEveryOrderText : List ℕ → LoadedDeck → Bool → List ℕ → Type 0
IsEveryOrderText bytes deck held text =
    JudgesEndings bytes deck held text ⊎ ExpectsNothing bytes held text

-- ---- what that means

-- what the deck expects holds of the lines of the run of just these steps
pub record MeetsExpectations (bytes : List ℕ) (deck : LoadedDeck) (order : List ℕ) : Type 0 where
  pub lines : List ℕ
  pub lines_are : AreLinesAfter bytes deck order lines
  pub holds : All (Holds (lines_in lines)) (expectations bytes)

-- steps end quiet only as some order does that meets what is expected
abbrev pub EndsAsExpected : List ℕ → LoadedDeck → List ℕ → Type 0
EndsAsExpected bytes deck ns = (order : List ℕ)
    × StandAlike (run ns deck.machine) (run order deck.machine) × MeetsExpectations bytes deck order

-- and come only into endings of such orders
abbrev pub LeadsAsExpected : List ℕ → LoadedDeck → List ℕ → Type 0
LeadsAsExpected bytes deck ns = (order : List ℕ)
    × LeadsTo (run ns deck.machine) (run order deck.machine)
    × LeadsTo (run order deck.machine) (run ns deck.machine) × MeetsExpectations bytes deck order
