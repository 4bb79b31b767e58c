use Rattle.pp_text.proofs.PrintingLemmas.{prints_lines_below}
use Rattle.pp_listing.specs.ListedLine.{text_line}
use Rattle.pp_listing.specs.Listing.{central_word_line}
use Rattle.pp_listing.proofs.listed_deck.print_central.Goals as goal

pub returns : goal.returns
returns g c = rw (← c.size.ensures.value) (prints_lines_below _ _ _ text_line (central_word_line c.args.central.now) _ c.print_each_below.ensures)
