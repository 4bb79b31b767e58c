use Rattle.pp_state.proofs.changes.+print_neighbours.Given as goal

abbrev pub decreases-print_neighbours : goal.decreases-print_neighbours
decreases-print_neighbours g l = l.most
