use Rattle.std.proofs.Common.{sym, ap, ◌∙◌}
use Rattle.pp_machine.specs.MachineState.{history_of}
use Rattle.pp_processor.specs.NeedAndEffect.{need}
use Rattle.pp_condition.proofs.MeetingLemmas.{makes_one, makes_none}
use Rattle.pp_condition.proofs.meeting.makes_on.Goals as goal

pub returns-in-Some : goal.returns-in-Some
returns-in-Some g c = λ m stands.
    makes_one c.args.form.now c.args.n c.in-Channel.c c.args.channel c.in-Channel.op m c.in-Some.event c.has_form.result
    (sym c.get.ensures.value ∙ c.if-get.false ∙ c.get-2.ensures.value)
    (ap need (sym (c.pp.ensures.value m stands)) ∙ sym c.wants.ensures.need ∙ c.in-Channel.is)
    (sym (c.next_event.ensures.event (history_of c.in-Channel.c m) (c.channel.ensures m stands)) ∙ c.in-Some.is) c.has_form.ensures

pub returns-in-None : goal.returns-in-None
returns-in-None g c = λ m stands.
    makes_none c.args.form.now c.args.n c.in-Channel.c c.args.channel c.in-Channel.op m
    (ap need (sym (c.pp.ensures.value m stands)) ∙ sym c.wants.ensures.need ∙ c.in-Channel.is)
    (sym (c.next_event.ensures.event (history_of c.in-Channel.c m) (c.channel.ensures m stands)) ∙ c.in-None.is)
