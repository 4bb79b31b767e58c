-- Findings that are printed as they come. (Private contracts alone cite this.)
use Rattle.std.specs.Prelude.{◌≡◌, ℕ, List, ◌++◌, Option, flat_map}
use Rattle.pp_text.specs.TextWriter.{Prints}
use Rattle.pp_text.specs.declared.text_writer.TextWriter.{TextWriter}
use Rattle.pp_races.specs.RacesText.{finding_line, verdict_of}
use Rattle.pp_races.specs.declared.{finding.Finding.Finding, verdict.Verdict.Verdict}

-- the lines of these findings are printed, and a verdict goes on by them
pub record PrintsFindings {W : Type 0} (contents : W → Option (List ℕ)) (old new : TextWriter W)
    (before after : Verdict) (findings : List Finding) : Type 0 where
  pub lines : Prints contents old new (flat_map finding_line findings)
  pub verdict : (all : List Finding) → before ≡ verdict_of all
      → after ≡ verdict_of (all ++ findings)

-- those of the first of them
pub record PrintsFirst {W : Type 0} (contents : W → Option (List ℕ)) (old new : TextWriter W)
    (before after : Verdict) (findings : List Finding) : Type 0 where
  pub first : List Finding
  pub others : List Finding
  pub all : findings ≡ first ++ others
  pub printed : PrintsFindings contents old new before after first
