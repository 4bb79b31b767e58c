use Rattle.std.proofs.Common.{arith}
use Rattle.pp_numbers.proofs.PpNoLemmas.{processor_fits}
use Rattle.pp_text.proofs.order_text.print_row.Goals as goal

pub print_short_octal-requires-clause-fits : goal.print_short_octal-requires-clause-fits
print_short_octal-requires-clause-fits g c = omega (arith, c.from.ensures, processor_fits c.get.result c.get.ensures.names)
