use Rattle.std.proofs.Common.{◌≡◌, ◌<◌, ◌+◌, ℕ, List, length, refl, sym, ap, ◌∙◌, subst, arith, rules}
use Rattle.std.specs.Prelude.{vec_len, vec_capacity}
use Rattle.pp_line.specs.LineLog.{seen_on}
use Rattle.pp_processor.specs.NeedAndEffect.{need}
use Rattle.pp_processor.specs.Processor.{Processor}
use Rattle.pp_processor.specs.declared.answer.Answer.{Answer}
use Rattle.pp_runner.proofs.EndLemmas.{end_memory, end_patience, end_worn}
use Rattle.pp_runner.proofs.LineLemmas.{same_line_still, same_line_twice, operated_none, operated_again, operated_more, operated_tries, operated_held}
use Rattle.pp_runner.specs.WorkerState.{IsAtWork, HasOperated, operations}
use Rattle.pp_runner.specs.End.{WasHeld}
use Rattle.pp_runner.proofs.worker_state.WorkerState.take_step.Goals as goal

pub returns-then-is_err : goal.returns-then-is_err
returns-then-is_err g c = record {
  work = subst (λ (xs : List Answer). IsAtWork c.args.load.now c.args.run.now.size c.args.run.now.limits.steps c.args.self.now.pp xs c.args.self.now.line) (sym {A = List Answer} c.reserve.ensures.items) c.requires.work;
  same_line = same_line_still _;
  operated = operated_tries c.args.self.now.tries c.args.self.now.tries 0 (operations (need c.args.self.now.pp)) c.args.self.now.line c.args.self.now.line (omega arith) (operated_none _ _);
  few_tries = (omega arith, omega arith);
  one_step = (refl, c.reserve.ensures.items);
  patience = λ is. absurd cc;
  moved = tt;
  next_step = tt;
  few = omega (arith, c.reserve.ensures.len, c.requires.steps_left);
  ended = end_memory c.args.run.now.limits.steps c.args.self.now.pp c.reserve.new.self.items c.args.self.now.line.log.entries c.requires.running (omega (arith, c.reserve.new.self.ok.0, c.reserve.ensures.len, c.requires.steps_left));
  worn = λ is. absurd cc;
}

pub loop-held-init : goal.loop-held-init
loop-held-init g c = grind (arith, same_line_still, rules, operated_none)

pub try_step-requires : goal.try_step-requires
try_step-requires g c = grind arith

pub returns-in-Moved : goal.returns-in-Moved
returns-in-Moved g c = record {
  work = c.try_step.ensures.work;
  same_line = same_line_twice c.args.self.now.line c.loop-held.self.line c.try_step.new.self.line c.loop-held.invariant.same_line c.try_step.ensures.same_line;
  operated =
      operated_more c.args.self.now.tries c.try_step.new.self.tries c.loop-held.held _ _ c.args.self.now.line c.loop-held.self.line c.try_step.new.self.line
      (omega (arith, c.try_step.ensures.tries, c.loop-held.invariant.tries)) (ap (λ p. operations (need p)) c.loop-held.invariant.same_pp) c.loop-held.invariant.operated c.try_step.ensures.operated;
  few_tries = (omega (arith, c.try_step.ensures.tries, c.loop-held.invariant.tries), omega (arith, c.try_step.ensures.tries, c.loop-held.invariant.tries, c.loop-held-test.true, c.patience-held-end.ensures));
  one_step = tt;
  patience = tt;
  moved = omega (arith, c.try_step.ensures.moved c.in-Moved.is, c.loop-held.self.answers.ok.0, c.args.self.now.answers.ok.0, ap (λ (xs : List Answer). length xs) c.loop-held.invariant.same_answers);
  next_step = search rules;
  few = tt;
  ended = tt;
  worn = tt;
}

pub returns-in-Worn : goal.returns-in-Worn
returns-in-Worn g c = record {
  work = c.try_step.ensures.work;
  same_line = same_line_twice c.args.self.now.line c.loop-held.self.line c.try_step.new.self.line c.loop-held.invariant.same_line c.try_step.ensures.same_line;
  operated =
      operated_more c.args.self.now.tries c.try_step.new.self.tries c.loop-held.held _ _ c.args.self.now.line c.loop-held.self.line c.try_step.new.self.line
      (omega (arith, c.try_step.ensures.tries, c.loop-held.invariant.tries)) (ap (λ p. operations (need p)) c.loop-held.invariant.same_pp) c.loop-held.invariant.operated c.try_step.ensures.operated;
  few_tries = (omega (arith, c.try_step.ensures.tries, c.loop-held.invariant.tries), omega (arith, c.try_step.ensures.tries, c.loop-held.invariant.tries, c.loop-held-test.true, c.patience-held-end.ensures));
  one_step =
      let worn = c.try_step.ensures.worn c.in-Worn.is in
      (worn.0 ∙ c.loop-held.invariant.same_pp, ap (λ v. v.items) worn.1 ∙ c.loop-held.invariant.same_answers);
  patience = λ is. absurd cc;
  moved = tt;
  next_step = tt;
  few = omega (arith, ap (λ v. vec_len v) (c.try_step.ensures.worn c.in-Worn.is).1, c.loop-held.self.answers.ok.0, c.args.self.now.answers.ok.0, ap (λ (xs : List Answer). length xs) c.loop-held.invariant.same_answers, c.requires.steps_left);
  ended =
      let worn = c.try_step.ensures.worn c.in-Worn.is in
      end_worn c.args.run.now.limits.steps c.try_step.new.self.pp c.try_step.new.self.answers.items c.try_step.new.self.line.log.entries (λ k. seen_on k c.try_step.new.self.line.view.seen)
      (ap (λ p. p.state) (worn.0 ∙ c.loop-held.invariant.same_pp) ∙ c.requires.running)
      (omega (arith, c.args.self.now.answers.ok.0, ap (λ v. length v.items) worn.1, ap (λ (xs : List Answer). length xs) c.loop-held.invariant.same_answers, c.requires.steps_left))
      worn.2;
  worn = λ is. (c.try_step.ensures.worn c.in-Worn.is).2;
}

pub loop-held-preserved : goal.loop-held-preserved
loop-held-preserved g c =
    let held = c.try_step.ensures.held c.in-Held.is in record {
      work = c.try_step.ensures.work;
      same_line = same_line_twice c.args.self.now.line c.loop-held.self.line c.try_step.new.self.line c.loop-held.invariant.same_line c.try_step.ensures.same_line;
      same_pp = held.0 ∙ c.loop-held.invariant.same_pp;
      same_answers = ap (λ v. v.items) held.1 ∙ c.loop-held.invariant.same_answers;
      place = subst (λ v. vec_len v < vec_capacity v) (sym held.1) c.loop-held.invariant.place;
      tries = omega (arith, c.try_step.ensures.tries, c.loop-held.invariant.tries);
      operated = operated_again c.loop-held.held (operations (need c.args.self.now.pp)) c.args.self.now.line c.loop-held.self.line c.try_step.new.self.line c.loop-held.invariant.operated
          (subst (λ (pp : Processor). HasOperated (operations (need pp)) c.loop-held.self.line c.try_step.new.self.line) c.loop-held.invariant.same_pp c.try_step.ensures.operated);
      was = λ again. held.2;
    }

pub returns : goal.returns
returns g c = record {
  work = c.loop-held.invariant.work;
  same_line = c.loop-held.invariant.same_line;
  operated =
      operated_tries c.args.self.now.tries c.loop-held.self.tries c.loop-held.held (operations (need c.args.self.now.pp)) c.args.self.now.line c.loop-held.self.line
      c.loop-held.invariant.tries c.loop-held.invariant.operated;
  few_tries = (omega (arith, c.loop-held.invariant.tries), omega (arith, c.loop-held.invariant.tries, c.loop-held.auto.held-end, c.patience-held-end.ensures));
  one_step = (c.loop-held.invariant.same_pp, c.loop-held.invariant.same_answers);
  patience =
      λ is.
      let all : c.loop-held.held ≡ c.args.run.now.limits.patience = omega (arith, c.loop-held.auto.held-end, c.patience-held-end.ensures, c.loop-held-test.false) in
      let was = c.loop-held.invariant.was (omega (arith, c.patience-held-end.ensures, c.loop-held-test.false)) in
      let now : HasOperated c.loop-held.held c.args.self.now.line c.loop-held.self.line =
      operated_held c.loop-held.held c.args.self.now.pp c.loop-held.self.line.log.entries c.args.self.now.line c.loop-held.self.line
      (subst (λ (pp : Processor). WasHeld pp c.loop-held.self.line.log.entries) c.loop-held.invariant.same_pp was) c.loop-held.invariant.operated in
      (c.loop-held.invariant.tries ∙ ap (λ n. c.args.self.now.tries + n) all, subst (λ (n : ℕ). HasOperated n c.args.self.now.line c.loop-held.self.line) all now);
  moved = tt;
  next_step = tt;
  few = omega (arith, c.loop-held.self.answers.ok.0, c.args.self.now.answers.ok.0, ap (λ (xs : List Answer). length xs) c.loop-held.invariant.same_answers, c.requires.steps_left);
  ended =
      end_patience c.args.run.now.limits.steps c.loop-held.self.pp c.loop-held.self.answers.items c.loop-held.self.line.log.entries
      (ap (λ p. p.state) c.loop-held.invariant.same_pp ∙ c.requires.running)
      (omega (arith, c.args.self.now.answers.ok.0, ap (λ (xs : List Answer). length xs) c.loop-held.invariant.same_answers, c.requires.steps_left))
      (c.loop-held.invariant.was (omega (arith, c.patience-held-end.ensures, c.loop-held-test.false)));
  worn = λ is. absurd cc;
}
