use Rattle.std.proofs.Common.{◌≡◌, None}
use Rattle.std.specs.Prelude.{find}
use Rattle.std.specs.List.{range_with_len}
use Rattle.pp_instructions.specs.Claim.{begins_comment}
use Rattle.pp_instructions.proofs.claim.comment_place.Given as goal

abbrev pub invariant-loop-place : goal.invariant-loop-place
invariant-loop-place l = find (begins_comment l.line) (range_with_len 0 l.place) ≡ None
