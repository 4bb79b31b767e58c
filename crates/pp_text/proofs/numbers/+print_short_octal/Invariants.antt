use Rattle.pp_text.proofs.numbers.+print_short_octal.Given as goal

abbrev pub decreases-print_short_octal : goal.decreases-print_short_octal
decreases-print_short_octal g l = l.most
