use Rattle.std.proofs.Common.{◌+◌, ◌∷◌, ◌++◌, ℕ, [], sym, subst, ap, ◌∙◌, cond, get_or, length, take, ◌<◌, ◌≡◌, arith}
use Rattle.std.specs.Prelude.{Bool}
use Rattle.pp_machine.specs.MachineState.{MachineState}
use Rattle.pp_machine.specs.MachineStep.{stepped}
use Rattle.std.proofs.lemmas.List.{get_or_read, take_all}
use Rattle.pp_machine.specs.Run.{run}
use Rattle.pp_machine.proofs.RunLemmas.{run_more}
use Rattle.pp_run.specs.BareMachine.{StandsFor}
use Rattle.pp_run.specs.RunSteps.{RunStep}
use Rattle.pp_steps.specs.Choice.{chosen_steps, is_chosen}
use Rattle.pp_steps.specs.HeldSpells.{Spells, each_spells, no_spells, with_step}
use Rattle.pp_steps.proofs.ChosenSteps.{chosen_more, few_chosen, step_in}
use Rattle.pp_steps.proofs.CountedSpells.{made_few, made_here, made_more, none_made}
use Rattle.pp_steps.proofs.SpellLemmas.{current_grows}
use Rattle.pp_steps.proofs.spell_counts.counted_spells.Goals as goal
use Rattle.pp_steps.proofs.spell_counts.counted_spells.Goals.{then-is_chosen+in_ok-note, else-is_chosen}

pub loop-n-init : goal.loop-n-init
loop-n-init g c = grind (arith, none_made)

pub note-requires : goal.note-requires
note-requires g c =
    let order = c.args.order.now in
    let m = c.args.machine.now in
    let t = c.loop-n.n-index in
    let n = c.n-item.result in
    let past = chosen_steps c.args.choice.now (take t order) m in
    let here = made_here with_step no_spells c.index_mut.result.now c.loop-n.spells.items past n c.index.result c.index.ensures.place c.index.ensures.below c.loop-n.invariant.counted c.index_mut.ensures.value in
    omega (
      arith,
      ap (λ (x : Spells). x.current) here,
      made_few with_step no_spells (λ (x : Spells). x.current) current_grows c.loop-n.spells.items past n c.step-step.ensures.within c.loop-n.invariant.counted,
      few_chosen c.args.choice.now order t m,
      c.loop-n-test.true,
      c.processors-n-items.ensures.few,
      ap length c.processors-n-items.ensures.are,
    )

pub loop-n-preserved : goal.loop-n-preserved
loop-n-preserved g c =
    let order = c.args.order.now in
    let m = c.args.machine.now in
    let choice = c.args.choice.now in
    let t = c.loop-n.n-index in
    let n = c.n-item.result in
    let old = run (take t order) m in
    let past = chosen_steps choice (take t order) m in
    let few : t < length order = omega (arith, c.loop-n-test.true, ap length c.processors-n-items.ensures.are) in
    let is : n ≡ get_or order t 0 = grind (arith, get_or_read) in
    let place = c.step-step.ensures.within in
    let after : run (take (t + 1) order) m ≡ stepped n old = run_more order t m few ∙ ap (λ (k : ℕ). stepped k old) (sym is) in
    let step : RunStep = step_in order t m n in
    let chosen : c.has-is_chosen.result ≡ is_chosen choice step = c.has-is_chosen.ensures old c.loop-n.invariant.stands in
    record {
      stands = subst (λ (x : MachineState). StandsFor c.step-step.new.self x) (sym after) (c.step-step.ensures.stepped old c.loop-n.invariant.stands);
      counted = (elim c.if-is_chosen.branch [
        | then-is_chosen+in_ok-note w ↦ grind (arith, made_here)
        | else-is_chosen w ↦ rw (w.spells-is, w.if-is_chosen.false)
      ])
          ∙ made_more with_step no_spells c.loop-n.spells.items c.has-is_chosen.result past step c.step-step.result place (c.step-step.ensures.progress old c.loop-n.invariant.stands) c.loop-n.invariant.counted
          ∙ ap each_spells (ap (λ (b : Bool). cond b (past ++ step ∷ []) past) chosen ∙ chosen_more choice order t m n few is);
    }

pub returns : goal.returns
returns g c = grind (arith, take_all)
