use Rattle.std.proofs.Common.{ap, arith, length}
use Rattle.pp_instructions.proofs.FieldLemmas.{few_fields}
use Rattle.pp_instructions.proofs.claim.Claims.of.Goals as goal

pub invariant_of-result : goal.invariant_of-result
invariant_of-result c = omega (arith, ap length c.of.ensures, few_fields c.args.comment.now)
