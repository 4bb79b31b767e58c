use Rattle.std.proofs.Common.{◌≡◌, ◌≤◌, ◌*◌, length, vec_len}
use Rattle.pp_runner.specs.WorkerState.{IsAtWork, IsSameLine}
use Rattle.pp_runner.proofs.worker_state.work.Given as goal

abbrev pub invariant-loop-done : goal.invariant-loop-done
invariant-loop-done g l = record {
  work : IsAtWork l.load l.run.size l.run.limits.steps l.worker.pp l.worker.answers.items l.worker.line;
  same_line : IsSameLine l.fn.line l.worker.line;
  found : length l.fn.line.view.found ≤ length l.worker.line.view.found;
  few_tries : l.worker.tries ≤ l.done * 4294967295;
  count : vec_len l.worker.answers ≡ l.done;
}
