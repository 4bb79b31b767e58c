use Rattle.std.proofs.Common.{◌≡◌, ◌+◌, arith, max}
use Rattle.pp_draw.specs.Frame.{band_width, head_text}
use Rattle.pp_text.proofs.PrintingLemmas.{◌▹◌}
use Rattle.pp_draw.proofs.frame.print_head.Goals as goal

pub returns : goal.returns
unfolding head_text
returns g c =
    let wide : c.max-width.result ≡ max 640 (band_width c.args.window + 220) = omega (arith, c.max-width.ensures, c.band_width.ensures.width) in
    let high = c.lane_top-height.ensures in
    c.print.ensures ▹ (rw wide at c.print_short_decimal.ensures) ▹ c.print-2.ensures ▹ (rw high at c.print_short_decimal-2.ensures) ▹ c.print-3.ensures
    ▹ (rw wide at c.print_short_decimal-3.ensures) ▹ c.print-4.ensures ▹ (rw high at c.print_short_decimal-4.ensures) ▹ c.print-5.ensures
    ▹ (rw c.from.ensures at c.print_short_decimal-5.ensures) ▹ c.print-6.ensures ▹ (rw c.from-2.ensures at c.print_short_decimal-6.ensures) ▹ c.print-7.ensures
