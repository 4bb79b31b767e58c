use Rattle.pp_text.proofs.numbers.+print_unpadded.Given as goal

abbrev pub decreases-print_unpadded : goal.decreases-print_unpadded
decreases-print_unpadded g l = l.most
