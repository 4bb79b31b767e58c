use Rattle.pp_text.proofs.PrintingLemmas.{◌▹◌}
use Rattle.pp_draw.proofs.frame.print_foot.Goals as goal

pub returns : goal.returns
returns g c = rw c.lane_top.ensures at c.print_text_tag.ensures ▹ c.print.ensures
