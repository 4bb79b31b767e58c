use Rattle.std.proofs.Common.{refl}
use Rattle.pp_lint.proofs.WarningLemmas.{found_both, prints_both}
use Rattle.pp_lint.proofs.warnings.print_start_warnings.Goals as goal

pub returns-clause-prints : goal.returns-clause-prints
returns-clause-prints g c = λ k notes shows number.
    prints_both _ _ _ _ _ _ (c.print_twice-is_twice.ensures.prints k notes shows number) (c.print_no_word-is_wordless.ensures.prints k notes shows number)

pub returns-clause-found : goal.returns-clause-found
returns-clause-found g c = λ k notes shows number.
    found_both _ _ c.print_twice-is_twice.result c.print_no_word-is_wordless.result _ (c.print_twice-is_twice.ensures.found k notes shows number) (c.print_no_word-is_wordless.ensures.found k notes shows number) refl
