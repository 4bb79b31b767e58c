use Rattle.std.proofs.Common.{sym, ◌∙◌}
use Rattle.pp_lint.proofs.WarningLemmas.{first_is_before, none_before_next}
use Rattle.pp_lint.proofs.warnings.first_twice.Goals as goal

pub returns-then-is_before-clause-value : goal.returns-then-is_before-clause-value
returns-then-is_before-clause-value g c = λ k notes shows number.
    first_is_before k notes c.args.row.now c.loop-i.i c.loop-i-test.true (c.loop-i.invariant k notes shows number) (sym c.if-is_before.true ∙ c.is_before.ensures k notes shows number)

pub loop-i-preserved : goal.loop-i-preserved
loop-i-preserved g c = λ k notes shows number.
    none_before_next k notes c.args.row.now c.loop-i.i (c.loop-i.invariant k notes shows number) (sym c.if-is_before.false ∙ c.is_before.ensures k notes shows number)
