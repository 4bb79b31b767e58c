use Rattle.std.proofs.Common.{arith}
use Rattle.pp_runner.proofs.CrewLemmas.{work_ended}
use Rattle.pp_runner.proofs.worker_state.WorkerState.ended.Goals as goal

pub returns-clause-ended : goal.returns-clause-ended
returns-clause-ended g c =
    work_ended c.args.load.now c.args.run.now.size c.args.run.now.limits.steps c.args.self.line _ c.requires.work (omega (arith, c.args.self.answers.ok.0, c.requires.few)) c.requires.finish c.requires.worn
