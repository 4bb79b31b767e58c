use Rattle.std.proofs.Common.{false, None, Some, refl, sym, ap, ◌∙◌}
use Rattle.pp_channel.specs.declared.event.Event.{Event}
use Rattle.pp_channel.specs.declared.channel_state.ChannelState.{ChannelState}
use Rattle.pp_machine.specs.MachineState.{history_of}
use Rattle.pp_processor.specs.NeedAndEffect.{need}
use Rattle.pp_condition.proofs.MeetingLemmas.{loses, loses_none, same_event}
use Rattle.pp_condition.proofs.meeting.loses_a_word.Goals as goal

pub returns-then-is_disconnect : goal.returns-then-is_disconnect
returns-then-is_disconnect g c = λ m stands.
    loses c.args.n c.in-Channel.c c.in-Channel.op m c.channel-state.result.flags.full
    (ap need (sym (c.pp.ensures.value m stands)) ∙ sym c.wants.ensures.need ∙ c.in-Channel.is)
    (sym (c.next_event.ensures.event (history_of c.in-Channel.c m) (c.channel-state.ensures m stands)) ∙ c.in-Some.is ∙ ap (λ (e : Event). Some e) (c.is_disconnect.ensures.0 c.if-is_disconnect.true))
    (ap (λ (state : ChannelState). state.flags.full) (c.channel-state.ensures m stands))

pub returns-else-is_disconnect : goal.returns-else-is_disconnect
returns-else-is_disconnect g c = λ m stands.
    loses_none c.args.n c.in-Channel.c c.in-Channel.op m c.is_disconnect.result (Some c.in-Some.event) c.if-is_disconnect.false
    (ap need (sym (c.pp.ensures.value m stands)) ∙ sym c.wants.ensures.need ∙ c.in-Channel.is)
    (sym (c.next_event.ensures.event (history_of c.in-Channel.c m) (c.channel-state.ensures m stands)) ∙ c.in-Some.is)
    (λ bad. let no = sym c.if-is_disconnect.false ∙ c.is_disconnect.ensures.1 (same_event c.in-Some.event Event.Disconnect bad) in absurd (cc))

pub returns-in-None : goal.returns-in-None
returns-in-None g c = λ m stands.
    loses_none c.args.n c.in-Channel.c c.in-Channel.op m false None refl
    (ap need (sym (c.pp.ensures.value m stands)) ∙ sym c.wants.ensures.need ∙ c.in-Channel.is)
    (sym (c.next_event.ensures.event (history_of c.in-Channel.c m) (c.channel-state.ensures m stands)) ∙ c.in-None.is)
    (λ bad. absurd (cc))
