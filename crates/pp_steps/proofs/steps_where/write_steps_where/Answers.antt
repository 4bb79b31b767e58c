use Rattle.std.proofs.Common.{◌≡◌, ◌<◌, ◌+◌, ◌++◌, ℕ, [], ◌∷◌, List, cond, length, sym, subst, ap, ◌∙◌, ◌≤◌, get_or, take, arith, rules}
use Rattle.std.specs.Prelude.{Bool}
use Rattle.std.proofs.lemmas.List.{get_or_read, take_all}
use Rattle.std.proofs.lemmas.Result.{err_from_is_err_and}
use Rattle.pp_machine.specs.MachineState.{MachineState}
use Rattle.pp_machine.specs.MachineStep.{stepped}
use Rattle.pp_machine.specs.Run.{run}
use Rattle.pp_machine.proofs.RunLemmas.{run_more}
use Rattle.pp_run.specs.RunSteps.{RunStep}
use Rattle.pp_run.specs.BareMachine.{StandsFor}
use Rattle.pp_text.specs.TextWriter.{Prints}
use Rattle.pp_text.proofs.PrintingLemmas.{prints_nothing, prints_then}
use Rattle.pp_steps.specs.Choice.{chosen_steps, is_chosen}
use Rattle.pp_steps.specs.StepsWhere.{HasLinesWhere}
use Rattle.pp_steps.proofs.ChosenSteps.{chosen_more, step_in}
use Rattle.pp_steps.proofs.WhereLemmas.{no_lines, own_text, where_more}
use Rattle.pp_steps.proofs.steps_where.write_steps_where.Goals as goal
use Rattle.pp_steps.proofs.steps_where.write_steps_where.Goals.{then-is_chosen+then-meets, else-is_chosen, else-is_chosen-via-then-is_chosen+else-meets, else-is_chosen-via-else-is_chosen}

pub loop-n-init : goal.loop-n-init
loop-n-init g c =
    let m = c.args.machine.now in
    record {
      before = c.in_ok-before.ensures;
      after = c.in_ok-after.ensures;
      watched = c.in_ok-watched.ensures;
      printed = ([], prints_nothing _ _, no_lines _);
    }

pub loop-n-preserved : goal.loop-n-preserved
loop-n-preserved g c =
    let order = c.args.order.now in
    let m = c.args.machine.now in
    let choice = c.args.choice.now in
    let t = c.loop-n.n-index in
    let old = run (take t order) m in
    let n = c.n-item.result in
    let low : t < length order = omega (arith, c.loop-n-test.true, ap length c.processors-n-items.ensures.are) in
    let is : n ≡ get_or order t 0 = grind (arith, get_or_read) in
    let after : run (take (t + 1) order) m ≡ stepped n old = run_more order t m low ∙ ap (λ (k : ℕ). stepped k old) (sym is) in
    let stands = c.step-step.ensures.stepped old c.loop-n.invariant.after in
    let step : RunStep = step_in order t m n in
    let chosen : c.has-is_chosen.result ≡ is_chosen choice step = c.has-is_chosen.ensures old c.loop-n.invariant.after in
    let past = chosen_steps choice (take t order) m in
    let gone : cond c.has-is_chosen.result (past ++ step ∷ []) past ≡ chosen_steps choice (take (t + 1) order) m =
    ap (λ (x : Bool). cond x (past ++ step ∷ []) past) chosen ∙ chosen_more choice order t m n low is in
    let own = own_text c.has-is_chosen.result c.step_meeting-meets.result step in
    let told : Prints g.W.Write.contents c.loop-n.text c.if-is_chosen.text own = elim c.if-is_chosen.branch [
      | then-is_chosen+then-meets w ↦ grind arith
      | else-is_chosen w ↦ elim w.else-is_chosen.branch [
        | else-is_chosen-via-then-is_chosen+else-meets x ↦ rw (w.text-is, x.if-is_chosen.true, x.if-meets.false) (prints_nothing _ _)
        | else-is_chosen-via-else-is_chosen x ↦ rw (w.text-is, x.if-is_chosen.false) (prints_nothing _ _)
      ]
    ] in
    let (text, prints, lines) = c.loop-n.invariant.printed in
    record {
      before = subst (λ (x : MachineState). StandsFor c.step-same.new.self x) (sym after) (c.step-same.ensures.stepped old c.loop-n.invariant.before);
      after = subst (λ (x : MachineState). StandsFor c.step-step.new.self x) (sym after) stands;
      watched = subst (λ (x : MachineState). StandsFor c.step_meeting-meets.new.bare x) (sym after) (c.step_meeting-meets.ensures.stepped old c.loop-n.invariant.watched);
      printed = (
        text ++ own,
        prints_then _ _ _ _ text _ prints told,
        subst (λ (steps : List RunStep). HasLinesWhere c.args.condition.now steps (text ++ own)) gone
            (where_more c.args.condition.now past step text c.has-is_chosen.result c.step_meeting-meets.result (c.step_meeting-meets.ensures.meets old c.loop-n.invariant.watched) lines),
      );
    }

pub returns : goal.returns
returns g c = grind (arith, take_all)

pub returns-in_err-finish : goal.returns-in_err-finish
returns-in_err-finish g c =
    let p = err_from_is_err_and c.from_residual-in_err-finish.result c.from_residual-in_err-finish.ensures.1 in
    let last : length c.args.order.now ≤ c.loop-n.n-index = omega (arith, c.loop-n-test.false, ap length c.processors-n-items.ensures.are) in
    let (text, prints, lines) = c.loop-n.invariant.printed in
    let written = c.finish.ensures.written _ _ (prints.goes_on _ [] c.new-text.ensures.nothing) in
    rw (p.1, p.2) (text, rw (take_all c.loop-n.n-index c.args.order.now last) at lines, search (rules, written))
