use Rattle.std.proofs.Common.{◌≡◌, ◌≤◌, map, vec_len, vec_capacity}
use Rattle.pp_runner.specs.Crew.{worker_of}
use Rattle.pp_runner.proofs.worker.workers.Given as goal

abbrev pub invariant-loop-ended : goal.invariant-loop-ended
invariant-loop-ended g l = record {
  made : l.workers.items ≡ map worker_of l.yielded;
  room : vec_len l.fn.crew ≤ vec_capacity l.workers;
}
