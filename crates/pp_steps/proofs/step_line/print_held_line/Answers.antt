use Rattle.std.proofs.Common.{◌≡◌, sym, ap, subst, ◌∙◌}
use Rattle.pp_channel.specs.declared.channel_state.ChannelState.{ChannelState}
use Rattle.pp_machine.specs.MachineState.{processor_of}
use Rattle.pp_processor.specs.NeedAndEffect.{need}
use Rattle.pp_processor.specs.declared.outcome.Outcome.TheVariants.{Held}
use Rattle.pp_text.specs.Standing.{channel_held_text, held_text}
use Rattle.pp_text.specs.TextWriter.{Prints}
use Rattle.pp_text.proofs.PrintingLemmas.{◌▹◌, prints_nothing}
use Rattle.pp_steps.specs.StepLine.{held_line}
use Rattle.pp_steps.proofs.LineLemmas.{not_held}
use Rattle.pp_steps.proofs.step_line.print_held_line.Goals as goal
use Rattle.pp_steps.proofs.step_line.print_held_line.Goals.{in-Channel, in_default}

pub returns : goal.returns
unfolding held_line
returns g c = λ m stands.
    let pp = c.pp-pp.ensures.value m stands in
    let x = need (processor_of c.args.n m) in
    let needs : c.wants.result ≡ x = c.wants.ensures.need ∙ ap need pp in
    let held : Prints g.W.Write.contents c.print_heading.new.text c.match-wants.text (held_text x Held m c.args.count) = elim c.match-wants.branch [
      | in-Channel w ↦ rw (w.text-is, sym needs ∙ w.in-Channel.is) (subst (Prints _ _ _) (ap (λ (s : ChannelState). channel_held_text w.in-Channel.c s.flags c.args.count) (w.channel.ensures m stands)) w.print_held_text.ensures)
      | in_default w ↦ rw (w.text-is, not_held x m c.args.count (λ c op is. w.in_default.not-Channel c op (needs ∙ is))) (prints_nothing _ _)
    ] in
    (rw (c.turns.ensures m stands, c.a.ensures, pp) at c.print_heading.ensures) ▹ held ▹ c.print.ensures
