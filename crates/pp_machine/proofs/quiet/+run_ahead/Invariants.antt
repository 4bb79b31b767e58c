use Rattle.std.proofs.Common.{◌-◌}
use Rattle.pp_machine.proofs.quiet.+run_ahead.Given as goal

abbrev pub decreases-run_ahead : goal.decreases-run_ahead
decreases-run_ahead g l = l.round - l.place
