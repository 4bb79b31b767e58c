use Rattle.pp_text.proofs.PrintingLemmas.{◌▹◌}
use Rattle.pp_text.proofs.numbers.print_short_decimal.Goals as goal

pub returns : goal.returns
unfolding Rattle.pp_word.specs.Numeral.short_decimal
returns g c = c.print_unpadded.ensures ▹ c.print.ensures
