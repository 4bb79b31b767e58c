use Rattle.std.proofs.Common.{arith, ◌∙◌}
use Rattle.pp_numbers.proofs.PpNoLemmas.{processor_fits}
use Rattle.pp_text.proofs.PrintingLemmas.{◌▹◌}
use Rattle.pp_test.specs.RunLines.{place_line}
use Rattle.pp_test.proofs.machine_lines.print_place.Goals as goal

pub print_short_octal-requires-clause-fits : goal.print_short_octal-requires-clause-fits
print_short_octal-requires-clause-fits g c = omega (arith, c.from.ensures, processor_fits c.get.result c.get.ensures.names)

pub returns : goal.returns
unfolding place_line
returns g c =
    let number = rw (c.from.ensures ∙ c.get.ensures.value) at c.print_short_octal.ensures in
    let place = rw (c.from-2.ensures ∙ c.get-2.ensures.value) at c.print_octal.ensures in
    let word = rw (c.from-3.ensures ∙ c.get-4.ensures.value ∙ c.get-3.ensures.value) at c.print_octal-2.ensures in
    c.print.ensures ▹ number ▹ c.print-2.ensures ▹ place ▹ c.print-3.ensures ▹ word ▹ c.print-4.ensures
