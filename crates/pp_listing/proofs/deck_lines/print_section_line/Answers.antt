use Rattle.std.proofs.Common.{arith, ◌∙◌}
use Rattle.pp_numbers.proofs.PpNoLemmas.{processor_fits}
use Rattle.pp_text.proofs.PrintingLemmas.{prints_on, prints_then}
use Rattle.pp_listing.proofs.TextLemmas.{section_line_pieces}
use Rattle.pp_listing.proofs.deck_lines.print_section_line.Goals as goal

pub print_short_octal-requires-clause-fits : goal.print_short_octal-requires-clause-fits
print_short_octal-requires-clause-fits g c = omega (arith, c.from.ensures, processor_fits c.get.result c.get.ensures.names)

pub returns : goal.returns
returns g c =
    prints_on _ _ _ _ _ _ _ (prints_then _ _ _ _ _ _ c.print.ensures c.print_short_octal.ensures) c.print-2.ensures
    (section_line_pieces c.args.n _ (c.from.ensures ∙ c.get.ensures.value))
