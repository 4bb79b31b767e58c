use Rattle.std.proofs.Common.{◌≡◌, arith, length, sym, ◌∙◌}
use Rattle.pp_instructions.specs.Claim.{begins_comment}
use Rattle.pp_instructions.proofs.ClaimLemmas.{comment_here, no_comment, none_yet}
use Rattle.pp_instructions.proofs.claim.comment_place.Goals as goal

pub returns-then-begins_comment-clause-value : goal.returns-then-begins_comment-clause-value
returns-then-begins_comment-clause-value c =
    comment_here c.args.line.now c.loop-place.place c.loop-place-test.true c.loop-place.invariant (sym c.begins_comment.ensures ∙ c.if-begins_comment.true)

pub loop-place-preserved : goal.loop-place-preserved
loop-place-preserved c = none_yet (begins_comment c.args.line.now) c.loop-place.place c.loop-place.invariant (sym c.begins_comment.ensures ∙ c.if-begins_comment.false)

pub returns-clause-value : goal.returns-clause-value
returns-clause-value c =
    let all : c.loop-place.place ≡ length c.args.line.now = omega (arith, c.loop-place-test.false, c.loop-place.auto.place-end) in
    no_comment c.args.line.now (rw all at c.loop-place.invariant)
