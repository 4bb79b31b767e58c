use Rattle.std.proofs.Common.{◌≡◌, arith, length, inl, inr, sym, ◌∙◌}
use Rattle.pp_instructions.specs.Column.{begins_field}
use Rattle.pp_instructions.specs.FieldsBefore.{fields_before}
use Rattle.pp_instructions.proofs.ColumnLemmas.{count_more, count_same}
use Rattle.pp_instructions.proofs.column.place_of.Goals as goal

pub loop-place-preserved : goal.loop-place-preserved
loop-place-preserved c =
    let p = begins_field c.args.line.now in
    elim c.else-begins.either [
      | inl some ↦ let one : c.from-passed.result ≡ 1 = rw some.0 at c.from-passed.ensures in record {
        counted = rw one (count_more p c.loop-place.place c.loop-place.passed c.loop-place.invariant.counted (sym c.begins_field-begins.ensures ∙ some.0));
        few = omega (arith, one, some.1, c.loop-place.invariant.few);
      }
      | inr none ↦ let zero : c.from-passed.result ≡ 0 = rw none at c.from-passed.ensures in record {
        counted = rw zero (count_same p c.loop-place.place c.loop-place.passed c.loop-place.invariant.counted (sym c.begins_field-begins.ensures ∙ none));
        few = omega (arith, zero, c.loop-place.invariant.few);
      }
    ]

pub returns-clause-none : goal.returns-clause-none
returns-clause-none c =
    let all : c.loop-place.place ≡ length c.args.line.now = omega (arith, c.loop-place-test.false, c.loop-place.auto.place-end) in
    let counted : fields_before c.args.line.now (length c.args.line.now) ≡ c.loop-place.passed = rw all at c.loop-place.invariant.counted in
    omega (arith, counted, c.loop-place.invariant.few)
