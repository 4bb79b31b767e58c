use Rattle.pp_draw.specs.Frame.{rectangle_tag}
use Rattle.pp_text.proofs.PrintingLemmas.{◌▹◌}
use Rattle.pp_draw.proofs.frame.print_rectangle_tag.Goals as goal

pub returns : goal.returns
unfolding rectangle_tag
returns g c =
    c.print.ensures ▹ c.print-2.ensures ▹ c.print-3.ensures ▹ c.print_short_decimal.ensures ▹ c.print-4.ensures ▹ c.print_short_decimal-2.ensures
    ▹ c.print-5.ensures ▹ c.print_short_decimal-3.ensures ▹ c.print-6.ensures ▹ c.print_short_decimal-4.ensures ▹ c.print-7.ensures
