-- How many expectations lines have.
use Rattle.std.proofs.Common.{◌≡◌, ℕ, ◌+◌, Bool, true, false, List, [], ◌∷◌, cond, length, ap, refl, sym, ◌∙◌}
use Rattle.std.specs.List.{count_by, slice_split}
use Rattle.std.proofs.lemmas.List.{length-append}
use Rattle.std.proofs.lemmas.List.Sums.{sum_by-cons}
use Rattle.pp_deck.specs.DeckText.{is_line_feed}
use Rattle.pp_test.specs.Expectations.{expectation_in, expectations, expectations_from}
use Rattle.pp_test.specs.Reading.{has_expectation}
use Rattle.pp_test.proofs.VerdictLemmas.{an_expectation, no_expectation}

in_line : (number : ℕ) (line : List ℕ) (b : Bool) → has_expectation line ≡ b → length (expectation_in number line) ≡ cond (has_expectation line) 1 0
in_line number line true is = rw is (ap length (an_expectation number line is))
in_line number line false is = rw is (ap length (no_expectation number line is))

pub count_from : (number : ℕ) (lines : List (List ℕ)) → length (expectations_from number lines) ≡ count_by has_expectation lines
count_from number [] = refl
count_from number (line ∷ rest) =
    length-append (expectation_in number line) (expectations_from (number + 1) rest)
    ∙ ap (λ n. n + length (expectations_from (number + 1) rest)) (in_line number line (has_expectation line) refl)
    ∙ ap (λ n. cond (has_expectation line) 1 0 + n) (count_from (number + 1) rest)
    ∙ sym (sum_by-cons (λ (one : List ℕ). cond (has_expectation one) 1 0) line rest)

pub count_all : (deck : List ℕ) → length (expectations deck) ≡ count_by has_expectation (slice_split is_line_feed deck)
unfolding expectations
count_all deck = count_from 1 (slice_split is_line_feed deck)
