use Rattle.std.proofs.Common.{vec_len}
use Rattle.pp_runner.proofs.crew.+run_lines.Given as goal

abbrev pub decreases-run_lines : goal.decreases-run_lines
decreases-run_lines g l = vec_len l.lines
