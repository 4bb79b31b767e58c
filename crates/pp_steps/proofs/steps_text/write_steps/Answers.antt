use Rattle.std.proofs.Common.{◌≡◌, ◌<◌, ◌+◌, ◌++◌, ℕ, [], ◌∷◌, List, length, sym, subst, ap, ◌∙◌, cond, get_or, slice_set, take, ◌≤◌, arith, rules}
use Rattle.std.specs.Prelude.{Bool}
use Rattle.pp_machine.specs.MachineState.{MachineState}
use Rattle.pp_machine.specs.MachineStep.{stepped}
use Rattle.pp_numbers.specs.PpNo.{processor_index}
use Rattle.std.proofs.lemmas.List.{get_or_read, take_all}
use Rattle.std.proofs.lemmas.Result.{err_from_is_err_and}
use Rattle.pp_machine.specs.Run.{run}
use Rattle.pp_machine.proofs.RunLemmas.{run_more}
use Rattle.pp_run.specs.RunSteps.{RunStep}
use Rattle.pp_text.specs.TextWriter.{Prints}
use Rattle.pp_text.proofs.PrintingLemmas.{prints_nothing, prints_then}
use Rattle.pp_run.specs.BareMachine.{StandsFor, progress}
use Rattle.pp_steps.specs.Choice.{chosen_steps, is_chosen}
use Rattle.pp_steps.specs.declared.choice.Choice.{Choice}
use Rattle.pp_steps.specs.Cursor.{each_cursor, line_at, no_cursor, past_step}
use Rattle.pp_steps.specs.HeldSpells.{each_spells, no_spells}
use Rattle.pp_steps.specs.declared.cursor.Cursor.{Cursor}
use Rattle.pp_steps.specs.declared.cursor.LineKind.TheVariants.{NoLine}
use Rattle.pp_numbers.proofs.TableLemmas.{length-tabulate}
use Rattle.pp_steps.specs.StepsText.{kind_text, steps_text}
use Rattle.pp_steps.proofs.ChosenSteps.{chosen_from, chosen_more, chosen_parts, few_chosen, next_chosen, none_left, step_in}
use Rattle.pp_steps.proofs.StepLawLemmas.{IsSoFar, everything, nothing_so_far, turn_told}
use Rattle.pp_steps.proofs.CountedSpells.{made_few, made_here, made_more, none_made}
use Rattle.pp_steps.proofs.SpellLemmas.{spells_grow}
use Rattle.pp_steps.proofs.steps_text.write_steps.Goals as goal
use Rattle.pp_steps.proofs.steps_text.write_steps.Goals.{then-is_chosen, else-is_chosen}

pub loop-n-init : goal.loop-n-init
loop-n-init g c =
    let m = c.args.machine.now in
    record {
      before = c.in_ok-before.ensures;
      after = c.in_ok-after.ensures;
      followed = none_made past_step no_cursor;
      printed = ([], prints_nothing _ _, nothing_so_far (chosen_steps c.args.choice.now c.args.order.now m));
    }

pub pass-kind-requires : goal.pass-kind-requires
pass-kind-requires g c =
    let order = c.args.order.now in
    let m = c.args.machine.now in
    let t = c.loop-n.n-index in
    omega (
      arith,
      ap (λ (i : ℕ). (get_or c.loop-n.cursors i no_cursor).spells) c.index.ensures.place,
      made_few past_step no_cursor (λ (x : Cursor). x.spells) spells_grow c.loop-n.cursors (chosen_steps c.args.choice.now (take t order) m) c.n-item.result c.step-step.ensures.within c.loop-n.invariant.followed,
      few_chosen c.args.choice.now order t m,
      c.loop-n-test.true,
      c.processors-n-items.ensures.few,
      ap length c.processors-n-items.ensures.are,
    )

pub index-requires-then-is_chosen-2 : goal.index-requires-then-is_chosen-2
index-requires-then-is_chosen-2 g c = grind (arith, length-tabulate)

pub loop-n-preserved : goal.loop-n-preserved
loop-n-preserved g c =
    let order = c.args.order.now in
    let m = c.args.machine.now in
    let choice = c.args.choice.now in
    let t = c.loop-n.n-index in
    let old = run (take t order) m in
    let n = c.n-item.result in
    let low : t < length order = omega (arith, c.loop-n-test.true, ap length c.processors-n-items.ensures.are) in
    let is : n ≡ get_or order t 0 = grind (arith, get_or_read) in
    let place = c.step-step.ensures.within in
    let after : run (take (t + 1) order) m ≡ stepped n old = run_more order t m low ∙ ap (λ (k : ℕ). stepped k old) (sym is) in
    let stands = c.step-step.ensures.stepped old c.loop-n.invariant.after in
    let made : c.step-step.result ≡ progress n old = c.step-step.ensures.progress old c.loop-n.invariant.after in
    let step : RunStep = step_in order t m n in
    let b = c.has-is_chosen.result in
    let chosen : b ≡ is_chosen choice step = c.has-is_chosen.ensures old c.loop-n.invariant.after in
    let all = chosen_steps choice order m in
    let past = chosen_steps choice (take t order) m in
    let future = chosen_from choice order (t + 1) m in
    let come : chosen_from choice order t m ≡ cond b (step ∷ future) future =
    next_chosen choice order t m n is low ∙ ap (λ (x : Bool). cond x (step ∷ future) future) (sym chosen) in
    let gone : cond b (past ++ step ∷ []) past ≡ chosen_steps choice (take (t + 1) order) m =
    ap (λ (x : Bool). cond x (past ++ step ∷ []) past) chosen ∙ chosen_more choice order t m n low is in
    let parts : past ++ cond b (step ∷ future) future ≡ all = ap (λ (steps : List RunStep). past ++ steps) (sym come) ∙ chosen_parts choice order t m in
    let kind = c.if-is_chosen.kind in
    let counted : c.in_ok-spells.spells.items ≡ each_spells all = c.in_ok-spells.ensures in
    let cursors : c.if-is_chosen.cursors ≡ cond b (slice_set c.loop-n.cursors (processor_index n) (past_step (get_or c.loop-n.cursors (processor_index n) no_cursor) c.step-step.result)) c.loop-n.cursors = elim c.if-is_chosen.branch [
      | then-is_chosen w ↦ rw (w.cursors-is, w.if-is_chosen.true) (search rules)
      | else-is_chosen w ↦ rw (w.cursors-is, w.if-is_chosen.false)
    ] in
    let line : kind ≡ cond b (line_at (get_or c.in_ok-spells.spells.items (processor_index n) no_spells) (get_or c.loop-n.cursors (processor_index n) no_cursor) c.step-step.result) NoLine = elim c.if-is_chosen.branch [
      | then-is_chosen w ↦ grind (arith, made_here)
      | else-is_chosen w ↦ rw (w.kind-is, w.if-is_chosen.false)
    ] in
    let told = c.print_line.ensures old c.loop-n.invariant.before stands in
    let (text, prints, so_far) = c.loop-n.invariant.printed in
    record {
      before = subst (λ (x : MachineState). StandsFor c.step-same.new.self x) (sym after) (c.step-same.ensures.stepped old c.loop-n.invariant.before);
      after = subst (λ (x : MachineState). StandsFor c.step-step.new.self x) (sym after) stands;
      followed = cursors ∙ made_more past_step no_cursor c.loop-n.cursors b past step c.step-step.result place made c.loop-n.invariant.followed ∙ ap each_cursor gone;
      printed = (
        text ++ kind_text kind n old,
        prints_then _ _ _ _ text _ prints told,
        subst (λ (steps : List RunStep). IsSoFar all steps future (text ++ kind_text kind n old)) gone
            (turn_told b all past future c.in_ok-spells.spells.items c.loop-n.cursors step c.step-step.result kind text place made counted c.loop-n.invariant.followed parts line
            (subst (λ (steps : List RunStep). IsSoFar all past steps text) come so_far)),
      );
    }

-- the text of all steps chosen
whole : (choice : Choice) (order : List ℕ) (m : MachineState) (t : ℕ) (text : List ℕ) → length order ≤ t
    → IsSoFar (chosen_steps choice order m) (chosen_steps choice (take t order) m) (chosen_from choice order t m) text → text ≡ steps_text choice order m
unfolding steps_text
whole choice order m t text last so_far =
    let all = chosen_steps choice order m in
    let past = chosen_steps choice (take t order) m in
    let made : past ≡ all = ap (λ ns. chosen_steps choice ns m) (take_all t order last) in
    everything all all text (subst (λ (steps : List RunStep). IsSoFar all steps [] text) made (subst (λ (steps : List RunStep). IsSoFar all past steps text) (none_left choice order t m last) so_far))

pub returns : goal.returns
returns g c =
    let last : length c.args.order.now ≤ c.loop-n.n-index = omega (arith, c.loop-n-test.false, ap length c.processors-n-items.ensures.are) in
    let (text, prints, so_far) = c.loop-n.invariant.printed in
    let printed = subst (Prints _ _ _) (whole c.args.choice.now c.args.order.now c.args.machine.now c.loop-n.n-index text last so_far) prints in
    let written = c.finish.ensures.written _ _ (printed.goes_on _ [] c.new-text.ensures.nothing) in
    search (rules, written)

pub returns-in_err-finish : goal.returns-in_err-finish
returns-in_err-finish g c =
    let p = err_from_is_err_and c.from_residual-in_err-finish.result c.from_residual-in_err-finish.ensures.1 in
    let last : length c.args.order.now ≤ c.loop-n.n-index = omega (arith, c.loop-n-test.false, ap length c.processors-n-items.ensures.are) in
    let (text, prints, so_far) = c.loop-n.invariant.printed in
    let printed = subst (Prints _ _ _) (whole c.args.choice.now c.args.order.now c.args.machine.now c.loop-n.n-index text last so_far) prints in
    let written = c.finish.ensures.written _ _ (printed.goes_on _ [] c.new-text.ensures.nothing) in
    rw (p.1, p.2) (search (rules, written))
