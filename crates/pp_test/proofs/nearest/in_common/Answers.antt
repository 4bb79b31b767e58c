use Rattle.std.proofs.Common.{ap, arith, length}
use Rattle.pp_instructions.proofs.FieldLemmas.{few_fields}
use Rattle.pp_test.proofs.nearest.in_common.Goals as goal

pub overflow_add-count : goal.overflow_add-count
overflow_add-count c =
    let more = ap length c.in-Some.ensures.taken in
    omega (arith, c.loop-word.invariant.left, more, few_fields c.args.words.now, c.requires)
