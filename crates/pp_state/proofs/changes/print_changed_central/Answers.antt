use Rattle.pp_text.proofs.PrintingLemmas.{prints_lines_below}
use Rattle.pp_listing.specs.ListedLine.{deck_line}
use Rattle.pp_state.specs.Changes.{central_line}
use Rattle.pp_state.proofs.changes.print_changed_central.Goals as goal

pub returns : goal.returns
returns g c = rw (← c.size.ensures.value) (prints_lines_below _ _ _ deck_line (central_line c.args.before.now c.args.after.now) _ c.print_each_below.ensures)
