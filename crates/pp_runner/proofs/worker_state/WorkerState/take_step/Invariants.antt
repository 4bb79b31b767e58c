use Rattle.std.proofs.Common.{◌≡◌, ◌<◌, ◌+◌, ◌*◌, vec_len, vec_capacity}
use Rattle.pp_processor.specs.NeedAndEffect.{need}
use Rattle.pp_runner.specs.WorkerState.{IsAtWork, IsSameLine, HasOperated, operations}
use Rattle.pp_runner.specs.End.{WasHeld}
use Rattle.pp_runner.proofs.worker_state.WorkerState.take_step.Given as goal

abbrev pub invariant-loop-held : goal.invariant-loop-held
invariant-loop-held g l = record {
  work : IsAtWork l.load l.run.size l.run.limits.steps l.self.pp l.self.answers.items l.self.line;
  same_line : IsSameLine l.fn.self.line l.self.line;
  same_pp : l.self.pp ≡ l.fn.self.pp;
  same_answers : l.self.answers.items ≡ l.fn.self.answers.items;
  place : vec_len l.self.answers < vec_capacity l.self.answers;
  tries : l.self.tries ≡ l.fn.self.tries + l.held;
  operated : HasOperated (l.held * operations (need l.fn.self.pp)) l.fn.self.line l.self.line;
  was : 0 < l.held → WasHeld l.self.pp l.self.line.log.entries;
}
