use Rattle.std.proofs.Common.{subst, sym, ◌∙◌, arith}
use Rattle.pp_line.specs.LineLog.{seen_on}
use Rattle.pp_runner.proofs.CrewLemmas.{ended_since, gave_up, not_given_up}
use Rattle.pp_runner.proofs.EndLemmas.{end_at_last, worn_at_rest, worn_at_last, patience_at_rest, patience_at_last}
use Rattle.pp_runner.proofs.WorkerStateLemmas.{work_begins}
use Rattle.pp_runner.proofs.LineLemmas.{operated_least, same_line_still, same_line_twice}
use Rattle.pp_runner.specs.End.{IsEnd, WornWithCause}
use Rattle.pp_runner.specs.declared.end.End.{End}
use Rattle.pp_runner.proofs.worker_state.work.Goals as goal

pub loop-done-init : goal.loop-done-init
loop-done-init g c = record {
  work = work_begins c.args.load.now c.copy.result c.args.run.now.size c.args.run.now.limits.steps c.new.result.items c.args.line c.copy.ensures c.new.ensures.items c.requires;
  same_line = same_line_still _;
  found = omega arith;
  few_tries = omega arith;
  count = c.new.ensures.len;
}

pub ended-requires : goal.ended-requires
ended-requires g c = record {
  work = c.loop-done.invariant.work;
  few = omega (arith, c.loop-done.invariant.count, c.loop-done-test.true, c.steps-done-end.ensures.value);
  finish = c.in-Some.ensures.ended c.args.run.now.limits.steps c.loop-done.worker.answers.items c.loop-done.worker.line.log.entries;
  worn = worn_at_rest (λ k. seen_on k c.loop-done.worker.line.view.seen) c.in-Some.finish c.loop-done.worker.pp c.in-Some.ensures.ended;
}

pub take_step-requires : goal.take_step-requires
take_step-requires g c = grind arith

pub ended-requires-in-Some-take_step : goal.ended-requires-in-Some-take_step
ended-requires-in-Some-take_step g c = grind arith

pub loop-done-preserved : goal.loop-done-preserved
loop-done-preserved g c = record {
  work = c.take_step.ensures.work;
  same_line = same_line_twice c.args.line c.loop-done.worker.line c.take_step.new.self.line c.loop-done.invariant.same_line c.take_step.ensures.same_line;
  found = omega (arith, c.loop-done.invariant.found, operated_least _ _ _ c.take_step.ensures.operated);
  few_tries = omega (arith, c.loop-done.invariant.few_tries, c.take_step.ensures.few_tries.1, c.patience-patience.ensures.value);
  count = omega (arith, c.in_default-take_step.ensures.moved, c.loop-done.invariant.count);
}

pub ended-requires-2 : goal.ended-requires-2
ended-requires-2 g c = record {
  work = c.loop-done.invariant.work;
  few = omega (arith, c.loop-done.invariant.count, c.steps-done-end.ensures.value, c.loop-done.auto.done-end);
  finish =
      subst (λ (finish : End). IsEnd c.args.run.now.limits.steps finish c.loop-done.worker.pp c.loop-done.worker.answers.items c.loop-done.worker.line.log.entries) (sym c.unwrap_or-finish.ensures)
      (end_at_last c.args.run.now.limits.steps c.loop-done.worker.pp c.loop-done.worker.answers.items c.loop-done.worker.line.log.entries c.at_rest-2.result c.at_rest-2.ensures.running c.at_rest-2.ensures.ended
      (omega (arith, c.loop-done.worker.answers.ok.0, c.loop-done.invariant.count, c.steps-done-end.ensures.value)));
  worn =
      subst (λ (finish : End). WornWithCause (λ k. seen_on k c.loop-done.worker.line.view.seen) finish c.loop-done.worker.pp) (sym c.unwrap_or-finish.ensures)
      (worn_at_last (λ k. seen_on k c.loop-done.worker.line.view.seen) c.loop-done.worker.pp c.at_rest-2.result c.at_rest-2.ensures.ended);
}

pub returns-in-Some : goal.returns-in-Some
returns-in-Some g c = record {
  ended = ended_since c.args.load.now c.args.run.now.size c.args.run.now.limits.steps c.args.line c.loop-done.worker.line c.ended.result c.loop-done.invariant.same_line c.ended.ensures.ended;
  patience = not_given_up c.args.run.now.limits.patience c.args.line c.in-Some.finish c.ended.result (patience_at_rest c.in-Some.finish c.loop-done.worker.pp c.in-Some.ensures.ended) c.ended.ensures.finish;
}

pub returns-in-Some-take_step : goal.returns-in-Some-take_step
returns-in-Some-take_step g c = record {
  ended =
      ended_since c.args.load.now c.args.run.now.size c.args.run.now.limits.steps c.args.line c.take_step.new.self.line c.ended-in-Some-take_step.result
      (same_line_twice c.args.line c.loop-done.worker.line c.take_step.new.self.line c.loop-done.invariant.same_line c.take_step.ensures.same_line) c.ended-in-Some-take_step.ensures.ended;
  patience =
      gave_up c.args.run.now.limits.patience c.args.line c.loop-done.worker.line c.take_step.new.self.line c.in-Some-take_step.finish c.ended-in-Some-take_step.result
      c.loop-done.invariant.found (λ is. (c.in-Some-take_step.ensures.patience is).1) c.ended-in-Some-take_step.ensures.line c.ended-in-Some-take_step.ensures.finish;
}

pub returns : goal.returns
returns g c = record {
  ended = ended_since c.args.load.now c.args.run.now.size c.args.run.now.limits.steps c.args.line c.loop-done.worker.line c.ended-2.result c.loop-done.invariant.same_line c.ended-2.ensures.ended;
  patience =
      not_given_up c.args.run.now.limits.patience c.args.line c.unwrap_or-finish.result c.ended-2.result
      (λ is. patience_at_last c.loop-done.worker.pp c.at_rest-2.result c.at_rest-2.ensures.ended (sym c.unwrap_or-finish.ensures ∙ is)) c.ended-2.ensures.finish;
}
