use Rattle.std.proofs.Common.{refl, sym, ap, arith, length, ◌∙◌}
use Rattle.std.specs.Prelude.{◌||◌}
use Rattle.pp_lint.specs.LineFault.{fault_after}
use Rattle.pp_lint.specs.LintText.{is_something_found}
use Rattle.pp_lint.proofs.FindingLemmas.{others_are_found, fault_is_found, foreign_found, prints_finding}
use Rattle.pp_instructions.proofs.FieldLemmas.{few_fields}
use Rattle.pp_lint.proofs.WarningLemmas.{found_both, prints_both}
use Rattle.pp_lint.proofs.line_findings.print_line_findings.Goals as goal

pub returns-in-Some-clause-prints : goal.returns-in-Some-clause-prints
returns-in-Some-clause-prints g c = λ k notes shows number.
    prints_finding _ _ _ _ _ (foreign_found k c.args.line.now (fault_after c.args.before.now) _ c.in-Some.place c.in-Some.ensures) (rw number at c.print_finding.ensures)

pub returns-in-Some-clause-found : goal.returns-in-Some-clause-found
returns-in-Some-clause-found g c = λ k notes shows number. ap is_something_found (sym (foreign_found k c.args.line.now (fault_after c.args.before.now) _ c.in-Some.place c.in-Some.ensures))

pub fault_of-requires : goal.fault_of-requires
fault_of-requires g c = omega (arith, ap length c.of.ensures, few_fields c.args.line.now)

pub returns-in-Some-fault_of-clause-prints : goal.returns-in-Some-fault_of-clause-prints
returns-in-Some-fault_of-clause-prints g c = λ k notes shows number.
    prints_finding _ _ _ _ _ (fault_is_found k c.args.line.now (fault_after c.args.before.now) _ c.in-Some-fault_of.fault c.in_default.ensures (rw c.of.ensures at c.in-Some-fault_of.ensures)) (rw number at c.print_fault.ensures)

pub returns-in-Some-fault_of-clause-found : goal.returns-in-Some-fault_of-clause-found
returns-in-Some-fault_of-clause-found g c = λ k notes shows number.
    ap is_something_found (sym (fault_is_found k c.args.line.now (fault_after c.args.before.now) _ c.in-Some-fault_of.fault c.in_default.ensures (rw c.of.ensures at c.in-Some-fault_of.ensures)))

pub print_warnings-is_warned-requires-clause-clean : goal.print_warnings-is_warned-requires-clause-clean
print_warnings-is_warned-requires-clause-clean g c = record { none = rw c.of.ensures at c.in-None.ensures }

pub print_run_findings-is_amiss-requires-clause-clean : goal.print_run_findings-is_amiss-requires-clause-clean
print_run_findings-is_amiss-requires-clause-clean g c = record { none = rw c.of.ensures at c.in-None.ensures }

pub returns-in-None-clause-prints : goal.returns-in-None-clause-prints
returns-in-None-clause-prints g c = λ k notes shows number.
    let none = rw c.of.ensures at c.in-None.ensures in
    rw (others_are_found k c.args.line.now (fault_after c.args.before.now) _ c.in_default.ensures none)
    (prints_both _ _ _ _ _ _ (prints_both _ _ _ _ _ _ (c.print_warnings-is_warned.ensures.prints k notes shows number) (c.print_run_findings-is_amiss.ensures.prints k notes shows number))
    (c.print_comment_findings-is_otherwise.ensures.prints c.args.before.now k (record { none = none }) number))

pub returns-in-None-clause-found : goal.returns-in-None-clause-found
returns-in-None-clause-found g c = λ k notes shows number.
    let none = rw c.of.ensures at c.in-None.ensures in
    found_both _ _ (c.print_warnings-is_warned.result || c.print_run_findings-is_amiss.result) c.print_comment_findings-is_otherwise.result _
    (found_both _ _ c.print_warnings-is_warned.result c.print_run_findings-is_amiss.result _ (c.print_warnings-is_warned.ensures.found k notes shows number) (c.print_run_findings-is_amiss.ensures.found k notes shows number) refl)
    (c.print_comment_findings-is_otherwise.ensures.found c.args.before.now k (record { none = none })) refl
    ∙ ap is_something_found (sym (others_are_found k c.args.line.now (fault_after c.args.before.now) _ c.in_default.ensures none))
