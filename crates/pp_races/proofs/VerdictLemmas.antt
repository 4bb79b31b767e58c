-- What findings come to, and what the last line of the text says.
use Rattle.std.proofs.Common.{◌≡◌, ℕ, Bool, true, List, [], ◌++◌, get_or, reverse, refl, arith}
use Rattle.std.specs.Prelude.{flat_map, if◌then◌else◌}
use Rattle.std.specs.List.{list_all}
use Rattle.pp_races.specs.RacesText.{finding_line, findings_text, is_going_on, verdict_line, verdict_of}
use Rattle.pp_races.specs.declared.{finding.Finding.Finding, verdict.Verdict.Verdict}
use Rattle.pp_races.specs.declared.verdict.Verdict.TheVariants.{Same, NoRaceSoFar, MayDiffer}
use Rattle.std.proofs.lemmas.List.{reverse-append}

-- ---- none

-- findings come to nothing only where there is none
pub same_none : (all : List Finding) → Same ≡ verdict_of all → all ≡ []
same_none all is = grind arith

-- where they come to NO RACE SO FAR, all are of processors that go on
pub so_far_going : (all : List Finding) → verdict_of all ≡ NoRaceSoFar → list_all is_going_on all ≡ true
so_far_going b is = grind arith

-- where they come to MAY DIFFER, some are not
pub differ_some : (all : List Finding) → verdict_of all ≡ MayDiffer → list_all is_going_on all ≡ true → ⊥
differ_some b is going = grind arith

-- ---- the last line

-- two texts that are one have one character at the same place from the end
from_end : (k : ℕ) (u v : Verdict) (lines before : List ℕ) → lines ++ verdict_line u ≡ before ++ verdict_line v
    → get_or (reverse (verdict_line u) ++ reverse lines) k 0 ≡ get_or (reverse (verdict_line v) ++ reverse before) k 0
from_end k u v lines before is = grind (arith, reverse-append)

last_verdict : (u v : Verdict) (lines before : List ℕ) → lines ++ verdict_line u ≡ before ++ verdict_line v → u ≡ v
last_verdict Same Same lines before is = refl
last_verdict NoRaceSoFar NoRaceSoFar lines before is = refl
last_verdict MayDiffer MayDiffer lines before is = refl
last_verdict Same NoRaceSoFar lines before is = let bad : 69 ≡ 65 = from_end 2 Same NoRaceSoFar lines before is in absurd (omega (arith, bad))
last_verdict NoRaceSoFar Same lines before is = let bad : 65 ≡ 69 = from_end 2 NoRaceSoFar Same lines before is in absurd (omega (arith, bad))
last_verdict NoRaceSoFar MayDiffer lines before is = let bad : 65 ≡ 69 = from_end 2 NoRaceSoFar MayDiffer lines before is in absurd (omega (arith, bad))
last_verdict MayDiffer NoRaceSoFar lines before is = let bad : 69 ≡ 65 = from_end 2 MayDiffer NoRaceSoFar lines before is in absurd (omega (arith, bad))
last_verdict Same MayDiffer lines before is = let bad : 68 ≡ 70 = from_end 3 Same MayDiffer lines before is in absurd (omega (arith, bad))
last_verdict MayDiffer Same lines before is = let bad : 70 ≡ 68 = from_end 3 MayDiffer Same lines before is in absurd (omega (arith, bad))

-- the last line of a text is what its findings come to
pub text_verdict : (all : List Finding) (v : Verdict) (before : List ℕ) → findings_text all ≡ before ++ verdict_line v → verdict_of all ≡ v
unfolding findings_text
text_verdict all v before is = last_verdict (verdict_of all) v (flat_map finding_line all) before is
