use Rattle.std.proofs.Common.{◌≡◌, ℕ, ◌+◌, ap, refl, subst, sym, ◌∙◌}
use Rattle.pp_instructions.specs.Claim.{claim}
use Rattle.pp_instructions.specs.Column.{column_of}
use Rattle.pp_lint.specs.CommentFindings.{claim_findings, claims_findings}
use Rattle.pp_lint.specs.LintText.{is_something_found}
use Rattle.pp_lint.proofs.CommentLemmas.{found_step, none_claimed, none_found, none_more, prints_none, prints_step}
use Rattle.pp_lint.proofs.WordsLemmas.{first_is, later_are}
use Rattle.pp_lint.proofs.comment_findings.print_claims_findings.Goals as goal

pub loop-said-init : goal.loop-said-init
loop-said-init g c = record {
  columns = c.of-columns.ensures;
  printed = λ k number out rest. rw c.of-claims.ensures at rest;
  found = λ k. rw c.of-claims.ensures refl;
}

pub loop-said-preserved : goal.loop-said-preserved
loop-said-preserved g c =
    let first = first_is _ _ c.next_instruction-instruction.result c.next_instruction-instruction.ensures.taken c.next_instruction-instruction.ensures.none in
    let later = later_are _ _ c.next_instruction-instruction.result c.next_instruction-instruction.ensures.taken c.next_instruction-instruction.ensures.none in
    record {
      columns = c.print_claim_finding-found.ensures.same ∙ c.loop-said.invariant.columns;
      printed = λ k number out rest. c.loop-said.invariant.printed k number out
          (prints_step _ _ _ _ k c.args.star c.loop-said.columns c.args.comment.now _ _ _ _ _ _ c.loop-said.invariant.columns c.in-Some.ensures.taken first later (c.print_claim_finding-found.ensures.prints k number) rest);
      found = λ k. found_step k (λ i. c.args.star + 1 + column_of c.args.comment.now i) _ _ _ _ _ _ c.loop-said.is_found _ _ c.in-Some.ensures.taken first later
          (subst (λ line. c.print_claim_finding-found.result ≡ is_something_found (claim_findings k (λ i. c.args.star + 1 + column_of line i) (claim c.in-Some.said.field c.in-Some.said.mnemonic.now c.in-Some.said.operand.now) c.next_instruction-instruction.result)) c.loop-said.invariant.columns (c.print_claim_finding-found.ensures.found k)) refl ∙ c.loop-said.invariant.found k;
    }

pub returns-clause-prints : goal.returns-clause-prints
returns-clause-prints g c = λ k number.
    let column = λ (i : ℕ). c.args.star + 1 + column_of c.args.comment.now i in
    c.loop-said.invariant.printed k number c.loop-said.text
    (prints_none _ _ _ (ap (λ cs. claims_findings k column cs c.loop-said.instructions) c.in_default.ensures.none ∙ none_claimed k column c.loop-said.instructions))

pub returns-clause-found : goal.returns-clause-found
returns-clause-found g c = λ k.
    let column = λ (i : ℕ). c.args.star + 1 + column_of c.args.comment.now i in
    none_more c.loop-said.is_found _ (sym (none_found _ (ap (λ cs. claims_findings k column cs c.loop-said.instructions) c.in_default.ensures.none ∙ none_claimed k column c.loop-said.instructions)))
    ∙ c.loop-said.invariant.found k
