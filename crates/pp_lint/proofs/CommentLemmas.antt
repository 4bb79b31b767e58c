-- What is found in comments, claim by claim.
use Rattle.std.proofs.Common.{◌≡◌, ℕ, ◌+◌, Bool, true, false, List, [], ◌∷◌, ◌++◌, drop, Option, Some, refl, subst, sym, ap, ◌∙◌}
use Rattle.std.specs.Prelude.{◌||◌, slice_get}
use Rattle.std.specs.List.{flat_map}
use Rattle.std.proofs.lemmas.List.Concat.{flat_map-append}
use Rattle.pp_text.proofs.PrintingLemmas.{prints_nothing, prints_on}
use Rattle.pp_text.specs.TextWriter.{Prints}
use Rattle.pp_text.specs.declared.text_writer.TextWriter.{TextWriter}
use Rattle.pp_deck.specs.DeckLine.{words}
use Rattle.pp_deck.specs.DeckText.{fields_of}
use Rattle.pp_instructions.specs.Claim.{Claim, claims, comment_place}
use Rattle.pp_instructions.specs.Column.{column_of}
use Rattle.pp_lint.specs.CommentFindings.{claim_findings, claims_findings, comment_findings}
use Rattle.pp_lint.specs.Finding.{Finding}
use Rattle.pp_instructions.specs.Instruction.{instructions}
use Rattle.pp_lint.specs.LintText.{finding_line, is_something_found}
use Rattle.pp_instructions.specs.declared.instruction.Instruction.{Instruction}
use Rattle.pp_lint.proofs.FindingLemmas.{found_more}

pub none_claimed : (k : ℕ) (column : ℕ → ℕ) (is : List Instruction) → claims_findings k column [] is ≡ []
unfolding claims_findings
none_claimed k column is = refl

pub claimed_first : (k : ℕ) (column : ℕ → ℕ) (claim : Claim) (more : List Claim) (is : List Instruction)
    → claims_findings k column (claim ∷ more) is ≡ claim_findings k column claim (slice_get is 0) ++ claims_findings k column more (drop 1 is)
unfolding claims_findings
claimed_first k column claim more is = refl

-- the lines of the first claim, and then of the others
pub lines_of_first : (k : ℕ) (column : ℕ → ℕ) (claim : Claim) (more : List Claim) (is : List Instruction)
    → flat_map finding_line (claims_findings k column (claim ∷ more) is)
    ≡ flat_map finding_line (claim_findings k column claim (slice_get is 0)) ++ flat_map finding_line (claims_findings k column more (drop 1 is))
lines_of_first k column claim more is =
    ap (flat_map finding_line) (claimed_first k column claim more is) ∙ flat_map-append finding_line (claim_findings k column claim (slice_get is 0)) (claims_findings k column more (drop 1 is))

pub found_first : (k : ℕ) (column : ℕ → ℕ) (claim : Claim) (more : List Claim) (is : List Instruction)
    → is_something_found (claims_findings k column (claim ∷ more) is)
    ≡ (is_something_found (claim_findings k column claim (slice_get is 0)) || is_something_found (claims_findings k column more (drop 1 is)))
found_first k column claim more is =
    ap is_something_found (claimed_first k column claim more is) ∙ found_more (claim_findings k column claim (slice_get is 0)) (claims_findings k column more (drop 1 is))

-- one more claim, beside the first of the instructions that are left
pub lines_step : (k : ℕ) (column : ℕ → ℕ) (all : List Claim) (claim : Claim) (more : List Claim) (is left : List Instruction) (o : Option Instruction) → all ≡ claim ∷ more → slice_get is 0 ≡ o → drop 1 is ≡ left
    → flat_map finding_line (claim_findings k column claim o) ++ flat_map finding_line (claims_findings k column more left) ≡ flat_map finding_line (claims_findings k column all is)
lines_step k column all claim more is left o taken first later =
    sym (ap (λ cs. flat_map finding_line (claims_findings k column cs is)) taken ∙ lines_of_first k column claim more is
    ∙ ap (λ i. flat_map finding_line (claim_findings k column claim i) ++ flat_map finding_line (claims_findings k column more (drop 1 is))) first
    ∙ ap (λ rest. flat_map finding_line (claim_findings k column claim o) ++ flat_map finding_line (claims_findings k column more rest)) later)

pub or_on : (a b c : Bool) → ((a || b) || c) ≡ (a || (b || c))
or_on true b c = refl
or_on false b c = refl

pub found_step : (k : ℕ) (column : ℕ → ℕ) (all : List Claim) (claim : Claim) (more : List Claim) (is left : List Instruction) (o : Option Instruction) (before here now : Bool) → all ≡ claim ∷ more → slice_get is 0 ≡ o → drop 1 is ≡ left
    → here ≡ is_something_found (claim_findings k column claim o) → now ≡ (before || here)
    → (now || is_something_found (claims_findings k column more left)) ≡ (before || is_something_found (claims_findings k column all is))
found_step k column all claim more is left o before here now taken first later is_here is_now =
    ap (λ b. b || is_something_found (claims_findings k column more left)) (is_now ∙ ap (λ b. before || b) is_here)
    ∙ or_on before (is_something_found (claim_findings k column claim o)) (is_something_found (claims_findings k column more left))
    ∙ ap (λ b. before || b) (sym (ap (λ cs. is_something_found (claims_findings k column cs is)) taken ∙ found_first k column claim more is
    ∙ ap (λ i. is_something_found (claim_findings k column claim i) || is_something_found (claims_findings k column more (drop 1 is))) first
    ∙ ap (λ rest. is_something_found (claim_findings k column claim o) || is_something_found (claims_findings k column more rest)) later))

pub prints_step : {W : Type 0} (contents : W → Option (List ℕ)) (old new out : TextWriter W) (k star : ℕ) (columns comment : List ℕ) (all : List Claim) (claim : Claim) (more : List Claim) (is left : List Instruction) (o : Option Instruction)
    → columns ≡ comment → all ≡ claim ∷ more → slice_get is 0 ≡ o → drop 1 is ≡ left
    → Prints contents old new (flat_map finding_line (claim_findings k (λ i. star + 1 + column_of columns i) claim o))
    → Prints contents new out (flat_map finding_line (claims_findings k (λ i. star + 1 + column_of comment i) more left))
    → Prints contents old out (flat_map finding_line (claims_findings k (λ i. star + 1 + column_of comment i) all is))
prints_step contents old new out k star columns comment all claim more is left o same taken first later here rest =
    prints_on contents old new out _ _ _ (subst (λ line. Prints contents old new (flat_map finding_line (claim_findings k (λ i. star + 1 + column_of line i) claim o))) same here) rest
    (lines_step k (λ i. star + 1 + column_of comment i) all claim more is left o taken first later)

pub prints_none : {W : Type 0} (contents : W → Option (List ℕ)) (out : TextWriter W) (found : List Finding) → found ≡ [] → Prints contents out out (flat_map finding_line found)
prints_none contents out found none = subst (λ fs. Prints contents out out (flat_map finding_line fs)) (sym none) (prints_nothing contents out)

pub none_found : (found : List Finding) → found ≡ [] → false ≡ is_something_found found
none_found found none = sym (ap is_something_found none)

pub none_more : (b c : Bool) → c ≡ false → b ≡ (b || c)
none_more true c none = refl
none_more false c none = sym none

pub comment_is : (k : ℕ) (line : List ℕ) (x : ℕ) (ws : List ℕ) (star : ℕ) → comment_place line ≡ Some star
    → comment_findings k line (Some (words x ws)) ≡ claims_findings k (λ i. star + 1 + column_of (drop (star + 1) line) i) (claims 0 (fields_of (drop (star + 1) line))) (instructions x ws)
unfolding comment_findings
comment_is k line x ws star at = rw at refl
