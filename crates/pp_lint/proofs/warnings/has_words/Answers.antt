use Rattle.std.proofs.Common.{arith}
use Rattle.pp_lint.proofs.WarningLemmas.{has_no_words, has_word_there, none_below_next}
use Rattle.pp_lint.proofs.warnings.has_words.Goals as goal

pub returns-then-line_of-ne0 : goal.returns-then-line_of-ne0
returns-then-line_of-ne0 g c = λ notes shows.
    has_word_there notes c.args.n c.loop-place.place c.line_of.result c.loop-place-test.true (c.line_of.ensures notes shows) c.if-line_of-ne0.true

pub loop-place-preserved : goal.loop-place-preserved
loop-place-preserved g c = λ notes shows.
    none_below_next notes c.args.n c.loop-place.place c.line_of.result (c.loop-place.invariant notes shows) (c.line_of.ensures notes shows) c.if-line_of-ne0.false

pub returns : goal.returns
returns g c = λ notes shows. has_no_words notes c.args.n c.loop-place.place (omega (arith, c.loop-place.auto.place-end, c.loop-place-test.false)) (c.loop-place.invariant notes shows)
