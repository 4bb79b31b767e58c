use Rattle.std.proofs.Common.{Bool, List, ap, ◌∙◌}
use Rattle.pp_deck.specs.InUse.{in_use}
use Rattle.pp_machine.specs.MachineState.{MachineState}
use Rattle.pp_machine.specs.Run.{run, run_order}
use Rattle.pp_run.specs.declared.step_counts.StepCounts.{StepCounts}
use Rattle.pp_sessions.specs.SessionsText.{sessions_after, sessions_text}
use Rattle.pp_sim.proofs.AnswerLemmas.{answers_after}
use Rattle.pp_sim.proofs.texts.write_sessions_after.Goals as goal

pub returns : goal.returns
returns g c = λ profile bytes meant same.
    let words = c.args.words in
    let turns = c.args.turns in
    let before = c.args.loaded.now.machine in
    let shown = in_use (record { machine = before; named = c.args.loaded.now.named }) in
    let after = c.counts_of_run.new.machine in
    let ok = c.in_ok-counts in
    let told =
    ap (λ (flags : List Bool). sessions_text words flags after ok.counts) c.in_use-shown.ensures
    ∙ ap (λ (m : MachineState). sessions_text words shown m ok.counts) ok.ensures.run
    ∙ ap (λ (counts : List StepCounts). sessions_text words shown (run (run_order c.args.first.now before.profile turns) before) counts) ok.ensures.counts in
    (rw c.answer_to.ensures (answers_after profile c.args.first.now turns (sessions_after words) bytes _ _ after c.write_sessions.result _ _
    meant ok.ensures.run ok.ensures.headline told c.write_sessions.ensures))
