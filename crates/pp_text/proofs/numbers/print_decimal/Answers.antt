use Rattle.pp_text.proofs.PrintingLemmas.{◌▹◌}
use Rattle.pp_text.proofs.numbers.print_decimal.Goals as goal

pub returns : goal.returns
unfolding Rattle.pp_word.specs.Numeral.decimal
returns g c =
    c.print_upper_digits-lower.ensures.text ▹ (rw (c.decimal6.ensures, c.print_upper_digits-lower.ensures.rest) at c.print.ensures)
