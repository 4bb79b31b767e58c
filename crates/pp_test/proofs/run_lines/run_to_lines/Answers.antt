use Rattle.std.proofs.Common.{◌≡◌, ℕ, Bool, true, List, ◌++◌, ap, ◌∙◌}
use Rattle.pp_machine.specs.MachineState.{MachineState}
use Rattle.pp_machine.specs.Run.{run, run_order}
use Rattle.pp_deck.specs.DeckMeaning.{LoadedDeck}
use Rattle.pp_deck.specs.InUse.{in_use}
use Rattle.pp_run.specs.RunSteps.{run_steps}
use Rattle.pp_run.specs.StepCounts.{each_step_counts}
use Rattle.pp_run.specs.declared.step_counts.StepCounts.{StepCounts}
use Rattle.pp_sessions.specs.SessionsText.{sessions_text}
use Rattle.pp_test.specs.RunLines.{machine_lines}
use Rattle.pp_test.proofs.run_lines.run_to_lines.Goals as goal

pub returns : goal.returns
returns g c =
    let before = c.args.loaded.now.machine in
    let deck : LoadedDeck = record { machine = before; named = c.args.loaded.now.named } in
    let after = c.run_counting_steps.new.machine in
    let ok = c.in-Ok in
    let ending = c.in_ok-ending.ending in
    let steps = run_order c.args.first.now before.profile c.args.turns in
    let order : c.in_ok-order.order ≡ steps = c.in_ok-order.ensures ∙ ap (λ p. run_order c.args.first.now p c.args.turns) c.profile-profile.ensures in
    let lines : List Bool → MachineState → List StepCounts → List ℕ = λ shown m counts. machine_lines shown m counts ending ++ sessions_text true shown m counts in
    let written : c.write_lines.new.writer.items ≡ c.new-text.result.items ++ lines c.in_use-shown.result after ok.counts = c.in_ok-write_lines.ensures in
    record {
      ending = ending;
      ends = c.in_ok-ending.ensures deck (rw c.profile-profile.ensures c.requires);
      text_is = written ∙ ap (λ (items : List ℕ). items ++ lines c.in_use-shown.result after ok.counts) c.new-text.ensures.items
          ∙ ap (λ (flags : List Bool). lines flags after ok.counts) c.in_use-shown.ensures
          ∙ ap (λ (m : MachineState). lines (in_use deck) m ok.counts) (ok.ensures.run.ran ∙ ap (λ ns. run ns before) order)
          ∙ ap (λ (counts : List StepCounts). lines (in_use deck) (run steps before) counts) (ok.ensures.counts ∙ ap (λ ns. each_step_counts (run_steps ns before)) order);
    }
