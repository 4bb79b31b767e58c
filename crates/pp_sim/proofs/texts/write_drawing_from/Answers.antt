use Rattle.std.proofs.Common.{◌≡◌, Bool, List, Option, ◌∙◌, ap}
use Rattle.pp_deck.specs.InUse.{in_use}
use Rattle.pp_draw.specs.DrawingText.{drawing, drawing_of_run}
use Rattle.pp_draw.specs.SeenStep.{earlier_steps, seen_in_window}
use Rattle.pp_draw.specs.declared.seen_step.SeenStep.{SeenStep}
use Rattle.pp_machine.specs.MachineState.{MachineState}
use Rattle.pp_machine.specs.Run.{run, run_order}
use Rattle.pp_numbers.specs.declared.window.Window.{Window}
use Rattle.pp_sim.proofs.AnswerLemmas.{answers_after}
use Rattle.pp_sim.proofs.texts.write_drawing_from.Goals as goal

pub returns : goal.returns
returns g c = λ profile bytes meant same.
    let window : Window = record { from = c.min-from.result; to = c.args.turns } in
    let before = c.args.loaded.now.machine in
    let shown = in_use (record { machine = before; named = c.args.loaded.now.named }) in
    let after = c.run_seeing_steps.new.machine in
    let ok = c.in_ok-steps in
    let order : c.in_ok-order.order ≡ run_order c.args.first.now before.profile c.args.turns = c.in_ok-order.ensures ∙ ap (λ p. run_order c.args.first.now p c.args.turns) c.profile.ensures in
    let ran = ok.ensures.run.ran ∙ ap (λ ns. run ns before) order in
    let told =
    ap (λ (flags : List Bool). drawing window flags after ok.steps.earlier ok.steps.shown.items) c.in_use-shown.ensures
    ∙ ap (λ (m : MachineState). drawing window shown m ok.steps.earlier ok.steps.shown.items) ran
    ∙ ap (λ (earlier : List (Option SeenStep)). drawing window shown (run (run_order c.args.first.now before.profile c.args.turns) before) earlier ok.steps.shown.items) (ok.ensures.earlier ∙ ap (λ ns. earlier_steps window ns before) order)
    ∙ ap (λ (steps : List SeenStep). drawing window shown (run (run_order c.args.first.now before.profile c.args.turns) before) (earlier_steps window (run_order c.args.first.now before.profile c.args.turns) before) steps) (ok.ensures.seen ∙ ap (λ ns. seen_in_window window ns before) order) in
    rw (← c.min-from.ensures) (rw c.answer_to.ensures (answers_after profile c.args.first.now c.args.turns (drawing_of_run window) bytes _ _ after c.write_drawing.result _ _
    meant ran c.run_seeing_steps.ensures.run.headline told c.write_drawing.ensures))
