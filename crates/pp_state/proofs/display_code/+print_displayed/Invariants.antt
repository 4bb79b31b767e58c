use Rattle.pp_state.proofs.display_code.+print_displayed.Given as goal

abbrev pub decreases-print_displayed : goal.decreases-print_displayed
decreases-print_displayed g l = l.width
