-- How a channel stands after an operation.
use Rattle.std.proofs.Common.{◌≡◌, List, [], ◌∷◌, ◌++◌, refl, ap}
use Rattle.std.specs.Prelude.{Option, Some}
use Rattle.std.specs.Option.{option_to_list}
use Rattle.pp_channel.specs.Answer.{channel_state, event_of, flags_after, history_after}
use Rattle.pp_channel.specs.Session.{word_put}
use Rattle.pp_channel.specs.History.{IsLawful}
use Rattle.pp_channel.specs.declared.{chan_op.ChanOp.ChanOp, event.Event.Event}
use Rattle.pp_channel.proofs.AnswerLemmas.{flags_by_table, lawful_with_event, word_by_table}

-- the state after an event
pub state_after : (h : List Event) (op : ChanOp) (e : Event) → IsLawful h → event_of op h ≡ Some e
    → record { flags = flags_after e; register = word_put e } ≡ channel_state (history_after op h)
state_after h op e lawful made =
    let more : IsLawful (h ++ e ∷ []) = lawful_with_event h op e lawful made in
    let after : history_after op h ≡ h ++ e ∷ [] = ap (λ (o : Option Event). h ++ option_to_list o) made in
    rw (after, flags_by_table h e lawful more, word_by_table h e lawful more) refl
