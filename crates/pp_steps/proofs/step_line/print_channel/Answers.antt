use Rattle.std.proofs.Common.{ap, sym, ◌∙◌}
use Rattle.pp_channel.specs.declared.channel_state.ChannelState.{ChannelState}
use Rattle.pp_machine.specs.MachineState.{history_of}
use Rattle.pp_text.proofs.PrintingLemmas.{◌▹◌}
use Rattle.pp_steps.proofs.step_line.print_channel.Goals as goal

pub returns-in-Some : goal.returns-in-Some
returns-in-Some g c = λ m stands.
    let event = c.next_event.ensures.event (history_of c.in-Channel.c m) (c.channel-state.ensures m stands) in
    rw (c.in-Channel.is, sym event ∙ c.in-Some.is)
    (c.print.ensures ▹ (rw c.channel_name.ensures at c.print-in-Channel.ensures) ▹ c.print-in-Channel-2.ensures ▹ c.print_event.ensures)

pub returns-in-None : goal.returns-in-None
returns-in-None g c = λ m stands.
    let state = c.channel-state.ensures m stands in
    let event = c.next_event.ensures.event (history_of c.in-Channel.c m) state in
    rw (c.in-Channel.is, sym event ∙ c.in-None.is)
    (c.print.ensures ▹ (rw c.channel_name.ensures at c.print-in-Channel.ensures) ▹ c.print-in-Channel-2.ensures
    ▹ (rw (ap (λ (s : ChannelState). s.flags) state) at c.print_flags_text.ensures))
