use Rattle.std.proofs.Common.{codes}
use Rattle.pp_word.specs.Numeral.{octal}
use Rattle.pp_text.proofs.PrintingLemmas.{◌▹◌}
use Rattle.pp_races.proofs.TextLemmas.{prints_parts}
use Rattle.pp_races.proofs.lines.print_place.Goals as goal

pub returns : goal.returns
returns g c =
    prints_parts _ _ _ _ _ (codes " CH") (octal 2 c.args.step.now.channel)
    ((rw c.processor_name.ensures at c.print.ensures) ▹ c.print-2.ensures ▹ (rw (c.octal4.ensures, c.get.ensures.value) at c.print-3.ensures) ▹ c.print-4.ensures
    ▹ (rw c.running_field.ensures at c.print-5.ensures))
    (c.print-6.ensures ▹ (rw c.channel_name.ensures at c.print-7.ensures))
