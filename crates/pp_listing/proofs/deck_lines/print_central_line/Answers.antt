use Rattle.pp_text.proofs.PrintingLemmas.{prints_on, prints_then}
use Rattle.pp_listing.proofs.TextLemmas.{central_line_pieces}
use Rattle.pp_listing.proofs.deck_lines.print_central_line.Goals as goal

pub returns : goal.returns
returns g c =
    prints_on _ _ _ _ _ _ _
    (prints_then _ _ _ _ _ _ (prints_then _ _ _ _ _ _ (prints_then _ _ _ _ _ _ c.print.ensures c.print_short_octal.ensures) c.print-2.ensures) c.print_octal.ensures)
    c.print-3.ensures (central_line_pieces c.args.address _ c.args.word c.from.ensures)
