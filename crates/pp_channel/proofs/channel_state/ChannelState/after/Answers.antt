use Rattle.std.proofs.Common.{rules, refl, ◌≡◌, ◌++◌, ◌∷◌, [], Some, sym, ap, ◌∙◌}
use Rattle.pp_channel.specs.Answer.{event_by, operation_of}
use Rattle.pp_channel.specs.History.{IsLawful}
use Rattle.pp_channel.proofs.AnswerLemmas.{lawful_with_event, flags_by_table, word_by_table}
use Rattle.pp_channel.proofs.channel_state.ChannelState.after.Goals as goal

pub returns-clause-lawful : goal.returns-clause-lawful
returns-clause-lawful c = λ h lawful is.
    let e = c.args.event.now in
    let same : c.in_ok-made.made ≡ e = search rules in
    let made : event_by (operation_of e) c.args.self.now.flags c.args.self.now.register ≡ Some e =
    ap (λ o. event_by o c.args.self.now.flags c.args.self.now.register) (sym c.operation_of.ensures) ∙ sym c.event_by.ensures.event ∙ c.in_ok-made.was ∙ ap Some same in
    let more : IsLawful (h ++ e ∷ []) = lawful_with_event h (operation_of e) e lawful (sym (ap (λ s. event_by (operation_of e) s.flags s.register) is) ∙ made) in
    (more, rw (c.flags_after.ensures, c.word_put.ensures, flags_by_table h e lawful more, word_by_table h e lawful more) refl)
