-- What the last line of the text of the races says.
use Rattle.std.proofs.Common.{◌≡◌, ℕ, List, ◌++◌, sym, ◌∙◌}
use Rattle.pp_deck.specs.DeckMeaning.{LoadedDeck}
use Rattle.pp_run.specs.Determinacy.{IsDeterminate, IsRaceFreeSoFar}
use Rattle.pp_races.specs.Findings.{findings}
use Rattle.pp_races.specs.RacesText.{verdict_line, verdict_of}
use Rattle.pp_races.specs.declared.verdict.Verdict.{Verdict}
use Rattle.pp_races.specs.declared.verdict.Verdict.TheVariants.{NoRaceSoFar, Same}
use Rattle.pp_races.proofs.VerdictLemmas.{same_none, so_far_going, text_verdict}
use Rattle.pp_sim.specs.TextOf.{IsRacesText, run_of}

module _ (first : List ℕ) (turns : ℕ) (deck : LoadedDeck) (text before : List ℕ) (is : IsRacesText first turns deck text) where
  -- that of the findings
  verdict_is : (v : Verdict) → text ≡ before ++ verdict_line v → verdict_of (findings (run_of first turns deck) deck.machine) ≡ v
  verdict_is v ends = text_verdict (findings (run_of first turns deck) deck.machine) v before (sym is.text_is ∙ ends)

  pub same_means : text ≡ before ++ verdict_line Same → IsDeterminate (run_of first turns deck) deck.machine
  same_means ends = is.same (same_none (findings (run_of first turns deck) deck.machine) (sym (verdict_is Same ends)))

  pub so_far_means : text ≡ before ++ verdict_line NoRaceSoFar → IsRaceFreeSoFar (run_of first turns deck) deck.machine
  so_far_means ends = is.no_race (so_far_going (findings (run_of first turns deck) deck.machine) (verdict_is NoRaceSoFar ends))
