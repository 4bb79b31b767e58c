use Rattle.pp_text.proofs.PrintingLemmas.{◌▹◌}
use Rattle.pp_sessions.specs.SessionsText.{idle_line}
use Rattle.pp_sessions.proofs.lines.print_idle.Goals as goal

pub returns : goal.returns
unfolding idle_line
returns g c =
    (rw c.channel_name.ensures at c.print.ensures) ▹ c.print-2.ensures ▹ c.print_short_decimal.ensures ▹ c.print-3.ensures ▹ c.print_moment.ensures ▹ c.print-4.ensures
    ▹ c.print_moment-2.ensures ▹ c.print-5.ensures
