use Rattle.std.proofs.Common.{◌≡◌, ◌<◌, length, ap, ◌∙◌, sym, subst, arith}
use Rattle.pp_machine.specs.MachineState.{processor_of}
use Rattle.pp_machine.specs.MachineStep.{answer_to, central_after, stepped}
use Rattle.pp_processor.specs.NeedAndEffect.{need, processor_after}
use Rattle.pp_processor.specs.Processor.{Processor, is_running}
use Rattle.pp_numbers.specs.PpNo.{processor_index}
use Rattle.pp_processor.specs.declared.need.Need.{Need}
use Rattle.pp_text.proofs.PrintingLemmas.{◌▹◌, prints_nothing}
use Rattle.pp_text.specs.TextWriter.{Prints}
use Rattle.pp_steps.specs.StepLine.{end_text, step_line}
use Rattle.pp_steps.proofs.LineLemmas.{end_told, no_end, stepped_central, stepped_processor}
use Rattle.pp_steps.proofs.step_line.print_step_line.Goals as goal
use Rattle.pp_steps.proofs.step_line.print_step_line.Goals.{then-not-is_running, else-not-is_running}

pub returns : goal.returns
unfolding step_line
returns g c = λ m stands further.
    let n = c.args.n in
    let after = stepped n m in
    let x = need (processor_of n m) in
    let old : c.pp-old.result.now ≡ processor_of n m = c.pp-old.ensures.value m stands in
    let new : c.pp-new.result.now ≡ processor_of n after = c.pp-new.ensures.value after further in
    let within : processor_index n < length m.processors = omega (arith, c.pp-old.ensures.within, stands.as_many) in
    let is : c.pp-new.result.now ≡ processor_after c.pp-old.result.now (answer_to x m) =
    new ∙ stepped_processor n m within ∙ ap (λ (pp : Processor). processor_after pp (answer_to x m)) (sym old) in
    let needs : c.wants-need.result ≡ x = c.wants-need.ensures.need ∙ ap need old in
    let central = c.central.ensures m stands in
    let later = c.central-2.ensures after further in
    let written : c.central-2.result.now ≡ central_after c.wants-need.result m =
    later ∙ stepped_central n m ∙ ap (λ (y : Need). central_after y m) (sym needs) in
    let runs : is_running (processor_of n after).state ≡ c.is_running.result = ap (λ (pp : Processor). is_running pp.state) (sym new) ∙ ap is_running (sym c.state.ensures.value) ∙ sym c.is_running.ensures in
    let ended : Prints g.W.Write.contents c.print_channel.new.text c.if-not-is_running.text (end_text (processor_of n after).state) = elim c.if-not-is_running.branch [
      | then-not-is_running w ↦ rw w.text-is (subst (Prints _ _ _) (end_told (processor_of n after).state (runs ∙ w.if-not-is_running.true)) (w.print.ensures ▹ (rw (w.state-then-not-is_running.ensures.value, new) at w.print_state_text.ensures)))
      | else-not-is_running w ↦ rw w.text-is (subst (Prints _ _ _) (no_end (processor_of n after).state (runs ∙ w.if-not-is_running.false)) (prints_nothing _ _))
    ] in
    (rw (c.turns.ensures m stands, c.a.ensures, new, old) at c.print_heading.ensures)
    ▹ (rw (new, old) at (c.print_places.ensures (answer_to x m) c.first_stored.ensures.others is))
    ▹ (rw (central, later) at (c.print_central.ensures m central written))
    ▹ (rw needs at (c.print_channel.ensures m stands))
    ▹ ended
    ▹ c.print-2.ensures
