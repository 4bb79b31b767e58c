use Rattle.std.proofs.Common.{ap, arith, length, ◌∙◌}
use Rattle.pp_deck.specs.DeckText.{fields_of}
use Rattle.pp_lint.specs.LineFault.{fault_after}
use Rattle.pp_lint.proofs.FaultLemmas.{code_is}
use Rattle.pp_instructions.proofs.FieldLemmas.{few_fields}
use Rattle.pp_lint.proofs.GivenLemmas.{fault_gives, fault_is_given}
use Rattle.pp_lint.proofs.lint_text.row_after.Goals as goal

pub fault_of-requires : goal.fault_of-requires
fault_of-requires c = omega (arith, ap length c.of.ensures, few_fields c.args.line.now)

pub row_of-requires-clause-fields : goal.row_of-requires-clause-fields
row_of-requires-clause-fields c = omega (arith, ap length c.of-in-None.ensures, few_fields c.args.line.now)

pub returns-in-Some-clause-value : goal.returns-in-Some-clause-value
returns-in-Some-clause-value c =
    c.one.ensures ∙ fault_gives c.args.before.now (fields_of c.args.line.now) c.in-Some.field-0.code (code_is (fault_after c.args.before.now) (fields_of c.args.line.now) c.in-Some.field-0 (rw c.of.ensures at c.in-Some.ensures))

pub returns-in-Some-clause-gives : goal.returns-in-Some-clause-gives
returns-in-Some-clause-gives c = fault_is_given c.args.before.now c.args.line.now _ c.one.ensures

pub returns-in-None-clause-gives : goal.returns-in-None-clause-gives
returns-in-None-clause-gives c =
    let none = rw c.of.ensures at c.in-None.ensures in
    record { clean = λ sets. record { none = none }; start = λ n is. rw c.of-in-None.ensures at (c.row_of.ensures.start n (rw c.of-in-None.ensures none) is) }
