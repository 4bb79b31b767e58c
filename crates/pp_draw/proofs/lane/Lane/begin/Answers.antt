use Rattle.pp_draw.specs.Lane.{lane_head}
use Rattle.pp_text.proofs.PrintingLemmas.{◌▹◌}
use Rattle.pp_draw.proofs.lane.Lane.begin.Goals as goal

pub returns-clause-text : goal.returns-clause-text
unfolding lane_head
returns-clause-text g c =
    c.print.ensures ▹ (rw c.lane_top.ensures at c.print_short_decimal.ensures) ▹ c.print-2.ensures ▹ c.print-3.ensures ▹ c.print-4.ensures ▹ (rw c.band_width.ensures.width at c.print_short_decimal-2.ensures)
    ▹ c.print-5.ensures
