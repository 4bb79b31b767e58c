use Rattle.std.proofs.Common.{◌≡◌, ◌<◌, ◌+◌, ◌^◌, ℕ, List, inr, length, take, get_or, refl, sym, ap, ◌∙◌, subst, arith}
use Rattle.std.proofs.lemmas.List.{get_or_read, length-take}
use Rattle.pp_machine.specs.Run.{run}
use Rattle.pp_machine.proofs.RunLemmas.{run_more}
use Rattle.pp_run.specs.RunSteps.{IsMade, RunStep, next_step, run_steps}
use Rattle.pp_run.proofs.RunStepLemmas.{length-run_steps, steps_more}
use Rattle.pp_run.proofs.observed_run.run_observed.Goals as goal
use Rattle.pp_run.proofs.observed_run.run_observed.Goals.{In-Ok}

number : (g : _) (c : In-Ok g) → c.n-item.result ≡ get_or c.args.order.now c.loop-n.n-index 0
number g c = grind (arith, get_or_read)

few : (g : _) (c : In-Ok g) → c.loop-n.n-index < length c.args.order.now
few g c = grind arith

noted : (g : _) (c : In-Ok g) → g.O.Observer.IsNote c.note-note.result (next_step c.args.order.now c.args.machine.now c.loop-n.n-index)
noted g c = rw (number g c, c.loop-n.invariant.ran) at c.note-note.ensures

here : (g : _) (c : In-Ok g) → record { processor = c.n-item.result; before = c.loop-n.machine } ≡ next_step c.args.order.now c.args.machine.now c.loop-n.n-index
here g c = λ k. record { processor = number g c k; before = c.loop-n.invariant.ran k }

made_now : (g : _) (c : In-Ok g) → IsMade (record { processor = c.n-item.result; before = c.loop-n.machine }) c.n-item.result c.in-Ok.outcome c.step.new.self
made_now g c = grind arith

made : (g : _) (c : In-Ok g) → IsMade (next_step c.args.order.now c.args.machine.now c.loop-n.n-index) c.n-item.result c.in-Ok.outcome c.step.new.self
made g c = subst (λ (step : RunStep). IsMade step c.n-item.result c.in-Ok.outcome c.step.new.self) (here g c) (made_now g c)

ran : (g : _) (c : In-Ok g) → c.step.new.self ≡ run (take (c.loop-n.n-index + 1) c.args.order.now) c.args.machine.now
ran g c = (made g c).after_is ∙ sym (run_more c.args.order.now c.loop-n.n-index c.args.machine.now (few g c))

kept : (g : _) (c : goal.After-drop-note-in_default-see g) → g.O.Observer.Keeps c.args.observer.now (next_step c.args.order.now c.args.machine.now c.loop-n.n-index)
kept g c =
    let d = (goal.at.returns-in_default-see-clause-cut_at g c).In-Ok in
    c.in_default-see.ensures.refused c.args.observer.now _ _ (noted g d) (made g d) c.loop-n.invariant.seen

pub loop-n-preserved : goal.loop-n-preserved
loop-n-preserved g c =
    let m = c.args.machine.now in
    let ns = c.args.order.now in
    let i = c.loop-n.n-index in
    let d = (goal.at.loop-n-preserved g c).In-Ok in
    let short : length (run_steps (take i ns) m) + 1 < 2 ^ 32 = omega (arith, length-run_steps (take i ns) m, length-take i ns, few g d, c.processors-n-items.ensures.few) in
    record {
      ran = ran g d;
      seen = subst (λ (ss : List RunStep). g.O.Observer.HasSeen c.args.observer.now ss c.see.new.self) (sym (steps_more ns i _ m (few g d) refl))
          (c.in-Ok-see.ensures.seen c.args.observer.now _ _ (noted g d) (made g d) short c.loop-n.invariant.seen);
      headline = c.step.ensures.headline;
      done = ap (λ (k : ℕ). k + 1) c.loop-n.invariant.done;
    }

pub returns-in_default-see-clause-run : goal.returns-in_default-see-clause-run
returns-in_default-see-clause-run g c = record {
  ran = tt;
  cut = ran g (goal.at.returns-in_default-see-clause-run g c).In-Ok ∙ ap (λ (k : ℕ). run (take (k + 1) c.args.order.now) c.args.machine.now) (sym c.loop-n.invariant.done);
  headline = c.step.ensures.headline;
}

pub returns-in_default-see-clause-cut_at : goal.returns-in_default-see-clause-cut_at
returns-in_default-see-clause-cut_at g c = inr (c.loop-n.n-index, ap (λ (t : ℕ). t + 1) c.loop-n.invariant.done, few g (goal.at.returns-in_default-see-clause-cut_at g c).In-Ok, kept g c)

pub returns-in_default-see-clause-unkept : goal.returns-in_default-see-clause-unkept
returns-in_default-see-clause-unkept g c = λ keeps_none. absurd (keeps_none _ (kept g c))
