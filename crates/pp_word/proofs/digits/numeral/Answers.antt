use Rattle.std.proofs.Common.{◌+◌, arith}
use Rattle.pp_word.proofs.NumeralLemmas.{next_below, more_digits}
use Rattle.pp_word.proofs.digits.numeral.Goals as goal

pub overflow_mul-value : goal.overflow_mul-value
overflow_mul-value c =
    let next = next_below c.args.base c.loop-character.character-index c.loop-character.value 0 c.loop-character.invariant.small (omega arith) in
    let most = more_digits c.args.base (c.loop-character.character-index + 1) c.args.most c.requires.few (omega arith) in
    omega (arith, next, most, c.requires.most)

pub overflow_add-value : goal.overflow_add-value
overflow_add-value c =
    let next = next_below c.args.base c.loop-character.character-index c.loop-character.value c.from-digit.result c.loop-character.invariant.small (omega arith) in
    let most = more_digits c.args.base (c.loop-character.character-index + 1) c.args.most c.requires.few (omega arith) in
    omega (arith, next, most, c.requires.most)

pub returns-clause-small : goal.returns-clause-small
returns-clause-small c = omega (arith, c.loop-character.invariant.small, more_digits c.args.base c.loop-character.character-index c.args.most c.requires.few (omega arith))
