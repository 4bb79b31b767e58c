use Rattle.pp_text.proofs.numbers.+print_octal.Given as goal

abbrev pub decreases-print_octal : goal.decreases-print_octal
decreases-print_octal g l = l.width
