use Rattle.std.proofs.Common.{◌≡◌, ℕ, List, length, refl, sym, ◌∙◌, subst, arith}
use Rattle.pp_processor.specs.NeedAndEffect.{need}
use Rattle.pp_runner.specs.Types.{Answer, Need}
use Rattle.pp_runner.specs.WorkerState.{IsAtWork, IsAnswered}
use Rattle.pp_runner.proofs.WorkerStateLemmas.{work_moved, work_held, work_worn}
use Rattle.pp_runner.proofs.worker_state.WorkerState.try_step.Goals as goal

pub returns-in-Held : goal.returns-in-Held
returns-in-Held g c =
    let answered : IsAnswered c.args.run.now.size (need c.args.self.now.pp) c.in-Ok.answer c.args.self.now.line c.ask-answered.new.line =
    subst (λ (size : ℕ). IsAnswered size (need c.args.self.now.pp) c.in-Ok.answer c.args.self.now.line c.ask-answered.new.line) c.requires.central
    (subst (λ (n : Need). IsAnswered (length c.args.self.now.line.view.central) n c.in-Ok.answer c.args.self.now.line c.ask-answered.new.line) c.wants_next.ensures (rw c.in-Ok.is at c.ask-answered.ensures.answered)) in
    let same : c.give_next.new.self ≡ c.args.self.now.pp = c.give_next.ensures.held_changes_nothing c.in-Held.is in
    let held = work_held c.args.load.now c.args.run.now.size c.args.run.now.limits.steps c.args.self.now.pp c.give_next.new.self c.args.self.now.answers.items c.in-Ok.answer c.args.self.now.line c.ask-answered.new.line
    c.requires.work (omega (arith, c.args.self.now.answers.ok.0, c.requires.steps_left)) answered (c.give_next.ensures.held_by_channel c.in-Held.is) same in record {
      work = held.work;
      same_line = c.ask-answered.ensures.same_line;
      operated = rw c.wants_next.ensures at c.ask-answered.ensures.operated;
      tries = refl;
      moved = λ is. absurd cc;
      held = λ is. (same, refl, held.was);
      worn = λ is. absurd cc;
    }

pub returns-in-Moved-clause-work : goal.returns-in-Moved-clause-work
returns-in-Moved-clause-work g c =
    let answered : IsAnswered c.args.run.now.size (need c.args.self.now.pp) c.in-Ok.answer c.args.self.now.line c.ask-answered.new.line =
    subst (λ (size : ℕ). IsAnswered size (need c.args.self.now.pp) c.in-Ok.answer c.args.self.now.line c.ask-answered.new.line) c.requires.central
    (subst (λ (n : Need). IsAnswered (length c.args.self.now.line.view.central) n c.in-Ok.answer c.args.self.now.line c.ask-answered.new.line) c.wants_next.ensures (rw c.in-Ok.is at c.ask-answered.ensures.answered)) in
    subst (λ (xs : List Answer). IsAtWork c.args.load.now c.args.run.now.size c.args.run.now.limits.steps c.give_next.new.self xs c.keep.new.self) (sym {A = List Answer} c.push_reserved.ensures.items)
    (work_moved c.args.load.now c.args.run.now.size c.args.run.now.limits.steps c.args.self.now.pp c.give_next.new.self c.args.self.now.answers.items c.in-Ok.answer c.args.self.now.line c.ask-answered.new.line c.keep.new.self
    c.requires.work (omega (arith, c.args.self.now.answers.ok.0, c.requires.steps_left)) answered (sym c.give_next.ensures.outcome ∙ c.in-Moved.is) c.give_next.ensures.after c.keep.ensures)

pub returns-in-Err-clause-work : goal.returns-in-Err-clause-work
returns-in-Err-clause-work g c = grind (arith, work_worn)
