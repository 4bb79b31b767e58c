use Rattle.pp_machine.proofs.machine.Machine.+open_below.Given as goal

abbrev pub decreases-open_below : goal.decreases-open_below
decreases-open_below g l = l.count
